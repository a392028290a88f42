-- The line of a worked climb.
use Rattle.std.specs.Prelude.{ℕ, List, [], ◌∷◌, ◌++◌, codes}

-- the line of two steps and five looks, as a brief of three junctions with eight links
abbrev pub climb_line : List ℕ
climb_line = codes "BRIEF 3 8 FROM 556223009 TOOK 2 BUDGET 5 TO 554272112" ++ 10 ∷ []
