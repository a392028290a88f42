-- Charts that were worked out apart.
use Rattle.std.specs.Prelude.{ℕ, List, [], ◌∷◌, ◌++◌, codes}
use Rattle.transyt_report.specs.WorkedTexts.{ended}

-- GO and queue of six steps: each of the four cases, and a GO and a queue of one unit
abbrev pub six_steps : List ℕ × List ℕ
six_steps = (0 ∷ 0 ∷ 2776388 ∷ 1 ∷ 2776388 ∷ 1 ∷ [], 1 ∷ 0 ∷ 2317435 ∷ 1 ∷ 0 ∷ 0 ∷ [])

-- their line, as a link of number 17
abbrev pub six_marks : List ℕ
six_marks = codes "CHART 17 q.QQGG" ++ 10 ∷ []

-- CHART of the three junctions
abbrev pub chart_of_three : List ℕ
chart_of_three =
    ended
    (codes "CHART 5 qqqqqqqqQQQQQGqqqq"
    ∷ codes "CHART 2 GGGGGGGqqqqqqqGGGG"
    ∷ codes "CHART 9 QQQGqqqqqqqqqqqqqq"
    ∷ codes "CHART 4 qqqqqqqQQQGGGGGqqq"
    ∷ codes "CHART 8 QqqqqqQGqqqqqqqqQQ"
    ∷ codes "CHART 3 qqqqqqqqqqQQQGqqqq"
    ∷ codes "CHART 6 qqqqqGGGGqqqqqqqqq"
    ∷ codes "CHART 11 GGGGGGGGQQQQQQQQQG"
    ∷ codes "END CHART"
    ∷ [])
