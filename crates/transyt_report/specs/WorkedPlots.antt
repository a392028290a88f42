-- Plots that were worked out apart, of the link of a number and its three profiles.
use Rattle.std.specs.Prelude.{ℕ, List, [], ◌∷◌, ◌++◌, codes, flat_map}

-- lines, a line end after each
abbrev pub ended : List (List ℕ) → List ℕ
ended lines = flat_map (λ line. line ++ 10 ∷ []) lines

-- three steps, where GO is the greatest; a share is rounded down
abbrev pub three_steps : List ℕ
three_steps =
    ended
    (codes "PLOT 8 SCALE 2776388"
    ∷ codes "000 IIII................|GGGGGGGGGGGGGGGGGGGG|OOOOOOOOOOOOOOOOOOOO"
    ∷ codes "001 III.................|GGGGGGGGGGGGGGGGGGGG|OOOOOOOOOOOOOOOOOOO."
    ∷ codes "002 IIIIIIIIIII.........|....................|...................."
    ∷ [])

-- a step of nothing
abbrev pub one_step : List ℕ
one_step =
    ended
    (codes "PLOT 1 SCALE 0"
    ∷ codes "000 ....................|....................|...................."
    ∷ [])

-- a step whose GO is above arrivals and departures
abbrev pub open_step : List ℕ
open_step =
    ended
    (codes "PLOT 5 SCALE 8"
    ∷ codes "000 IIIII...............|GGGGGGGGGGGGGGGGGGGG|OOOOOOOOOOOO........"
    ∷ [])
