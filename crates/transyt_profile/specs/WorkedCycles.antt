-- Worked cycles at a stop line, each with its answer. No number is neutral.
use Rattle.std.specs.Prelude.{ℕ, List, [], ◌∷◌}

-- GO in six steps
abbrev pub green : List ℕ
green = 0 ∷ 400009 ∷ 700001 ∷ 900001 ∷ 1 ∷ 0 ∷ []

-- more comes than the green lets pass
abbrev pub crowd : List ℕ
crowd = 1000003 ∷ 750007 ∷ 0 ∷ 37 ∷ 999999 ∷ 61 ∷ []

-- the arrivals after the cut
abbrev pub cut_crowd : List ℕ
cut_crowd = 727250 ∷ 545441 ∷ 0 ∷ 26 ∷ 727248 ∷ 44 ∷ []

-- less comes than the green lets pass
abbrev pub some_traffic : List ℕ
some_traffic = 500009 ∷ 3 ∷ 0 ∷ 37 ∷ 999999 ∷ 61 ∷ []

-- steps and numbers of last steps, with the sum of the crowd over these
abbrev pub worked_sums : List ((ℕ × ℕ) × ℕ)
worked_sums =
    ((5, 0), 0)
    ∷ ((5, 1), 61)
    ∷ ((0, 2), 1000064)
    ∷ ((1, 4), 2750070)
    ∷ ((3, 6), 2750107)
    ∷ ((2, 7), 2750107)
    ∷ []

-- arrivals, with their queue, departures and stopped arrivals
abbrev pub worked_queues : List (List ℕ × (List ℕ × List ℕ × ℕ))
worked_queues = (
  some_traffic,
  (
    1500068 ∷ 1100062 ∷ 400061 ∷ 0 ∷ 999998 ∷ 1000059 ∷ [],
    0 ∷ 400009 ∷ 700001 ∷ 400098 ∷ 1 ∷ 0 ∷ [],
    1500072,
  ),
)
    ∷ (
      cut_crowd,
      (
        1454541 ∷ 1599973 ∷ 899972 ∷ 0 ∷ 727247 ∷ 727291 ∷ [],
        0 ∷ 400009 ∷ 700001 ∷ 899998 ∷ 1 ∷ 0 ∷ [],
        1999983,
      ),
    )
    ∷ []
