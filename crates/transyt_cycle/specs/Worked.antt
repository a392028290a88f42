-- Worked steps round a cycle. No number is neutral.
use Rattle.std.specs.Prelude.{ℕ, List, [], ◌∷◌}

-- the steps of a cycle and two steps, also past the cycle's end, with the difference of the two
abbrev pub worked_differences : List ((ℕ × ℕ × ℕ) × ℕ)
worked_differences =
    ((18, 5, 13), 10) ∷ ((18, 100, 37), 9) ∷ ((18, 7, 41), 2) ∷ ((18, 3, 39), 0) ∷ ((18, 0, 17), 1) ∷ []
