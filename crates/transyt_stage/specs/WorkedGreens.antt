-- Worked greens: those of the three junctions, and the GO that is left where a link gives way.
use Rattle.std.specs.Prelude.{ℕ, List, [], ◌∷◌, ◌++◌, replicate, Bool, true, false}

-- GO of each link of the three junctions, in each step
abbrev pub greens : List (List ℕ)
greens =
    (replicate 8 0 ++ replicate 6 2406944 ++ replicate 4 0)
    ∷ (replicate 7 2248611 ++ replicate 7 0 ++ replicate 4 2248611)
    ∷ (replicate 4 2606944 ++ replicate 14 0)
    ∷ (replicate 7 0 ++ replicate 8 2015277 ++ replicate 3 0)
    ∷ (replicate 1 2776388 ++ replicate 5 0 ++ replicate 2 2776388 ++ replicate 8 0 ++ replicate 2 2776388)
    ∷ (replicate 10 0 ++ replicate 4 1668055 ++ replicate 4 0)
    ∷ (replicate 5 0 ++ replicate 4 1843055 ++ replicate 9 0)
    ∷ replicate 18 1259722
    ∷ []

-- at which steps the first of them, whose lags differ, is green
abbrev pub green_steps : List Bool
green_steps = replicate 8 false ++ replicate 6 true ++ replicate 4 false

-- at which steps a link is shown, its start lag and its end lag, and at which steps it is green: one with neither lag,
-- one that loses all its green, one that is shown at every step, one whose end lag leads past the cycle, two that
-- open in the last step and in the last but one, whose start lags lead past the cycle, and one that is shown in a single
-- step, whose start lag goes on while the end lag holds it
abbrev pub lagging : List (List Bool × ℕ × ℕ × List Bool)
lagging =
    (true ∷ true ∷ false ∷ false ∷ [], 0, 0, true ∷ true ∷ false ∷ false ∷ [])
    ∷ (true ∷ true ∷ false ∷ false ∷ [], 2, 0, replicate 4 false)
    ∷ (replicate 4 true, 3, 1, replicate 4 true)
    ∷ (true ∷ false ∷ false ∷ true ∷ [], 1, 1, true ∷ true ∷ false ∷ false ∷ [])
    ∷ (true ∷ true ∷ false ∷ false ∷ true ∷ [], 2, 0, false ∷ true ∷ false ∷ false ∷ false ∷ [])
    ∷ (true ∷ true ∷ false ∷ true ∷ true ∷ [], 3, 0, false ∷ true ∷ false ∷ false ∷ false ∷ [])
    ∷ (true ∷ replicate 5 false, 3, 3, replicate 3 false ++ true ∷ replicate 2 false)
    ∷ []

-- a percentage, the departures of the other link, GO before and GO after
abbrev pub yields : List (ℕ × List ℕ × List ℕ × List ℕ)
yields =
    (150, 1001 ∷ 700 ∷ 700 ∷ 5 ∷ [], 2000 ∷ 1000 ∷ 0 ∷ 9 ∷ [], 499 ∷ 1 ∷ 0 ∷ 2 ∷ [])
    ∷ (35, 999 ∷ 2 ∷ [], 1000 ∷ 1 ∷ [], 651 ∷ 1 ∷ [])
    ∷ (0, 9 ∷ [], 4 ∷ [], 4 ∷ [])
    ∷ []
