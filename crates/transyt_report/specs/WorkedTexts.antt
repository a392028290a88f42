-- Texts that were worked out apart, with their nodes and links. No number of them is neutral.
use Rattle.std.specs.Prelude.{ℕ, List, [], ◌∷◌, ◌++◌, codes, flat_map}
use Rattle.transyt_delay.specs.declared.figures.Figures.{Figures}
use Rattle.transyt_parts.specs.Parts.{NodeValue}
use Rattle.transyt_parts.specs.Made.{new_stage}
use Rattle.transyt_net.specs.Parts.{Network}
use Rattle.transyt_stage.specs.ThreeJunctions.{three_junctions}

-- figures of a link
abbrev pub some_figures : Figures
some_figures = record { uniform = 4055238; random = 74990806; stops = 109427; index = 158537455 }

-- its line, as the link of number 9
abbrev pub figures_text : List ℕ
figures_text = codes "LINK 9 UNIFORM 4055238 RANDOM 74990806 STOPS 109427 INDEX 158537455" ++ 10 ∷ []

-- a node of two stages, the second of which runs past the end of the cycle
abbrev pub node_of_two : NodeValue
node_of_two = record { number = 7; offset = 17; stages = new_stage 5 3 2 ∷ new_stage 16 1 5 ∷ [] }

-- its lines in a cycle of 18 steps
abbrev pub lines_of_two : List ℕ
lines_of_two =
    codes "NODE 7 OFFSET 17" ++ 10 ∷ codes "STAGE 1 CHANGE 5 AT 4 LENGTH 11 INTERGREEN 3 GREEN 8 LEAST 2"
    ++ 10 ∷ codes "STAGE 2 CHANGE 16 AT 15 LENGTH 7 INTERGREEN 1 GREEN 6 LEAST 5" ++ 10 ∷ []

-- a node of three stages, of which the last has no intergreen
abbrev pub node_of_three : NodeValue
node_of_three =
    record { number = 21; offset = 4; stages = new_stage 2 1 3 ∷ new_stage 8 2 4 ∷ new_stage 15 0 1 ∷ [] }

-- its lines in a cycle of 18 steps
abbrev pub lines_of_three : List ℕ
lines_of_three =
    codes "NODE 21 OFFSET 4" ++ 10 ∷ codes "STAGE 1 CHANGE 2 AT 6 LENGTH 6 INTERGREEN 1 GREEN 5 LEAST 3"
    ++ 10 ∷ codes "STAGE 2 CHANGE 8 AT 12 LENGTH 7 INTERGREEN 2 GREEN 5 LEAST 4"
    ++ 10 ∷ codes "STAGE 3 CHANGE 15 AT 1 LENGTH 5 INTERGREEN 0 GREEN 5 LEAST 1" ++ 10 ∷ []

-- the three junctions with these two nodes in place of theirs
abbrev pub two_nodes : Network
two_nodes = record three_junctions { nodes = node_of_three ∷ node_of_two ∷ [] }

-- lines, a line end after each
abbrev pub ended : List (List ℕ) → List ℕ
ended lines = flat_map (λ line. line ++ 10 ∷ []) lines

-- LINKS of the three junctions
abbrev pub links_of_three : List ℕ
links_of_three =
    ended
    (
    codes "LINK 5 UNIFORM 4248952 RANDOM 5596446 STOPS 140944 INDEX 29640492"
    ∷ codes "LINK 2 UNIFORM 209567 RANDOM 54339 STOPS 10478 INDEX 1346668"
    ∷ codes "LINK 9 UNIFORM 4055238 RANDOM 74990806 STOPS 109427 INDEX 158537455"
    ∷ codes "LINK 4 UNIFORM 2654935 RANDOM 616430 STOPS 67423 INDEX 13110406"
    ∷ codes "LINK 8 UNIFORM 4221950 RANDOM 12822216 STOPS 149144 INDEX 102540912"
    ∷ codes "LINK 3 UNIFORM 2594744 RANDOM 229508027 STOPS 70016 INDEX 232335924"
    ∷ codes "LINK 6 UNIFORM 886593 RANDOM 233233 STOPS 18951 INDEX 7859817"
    ∷ codes "LINK 11 UNIFORM 846351 RANDOM 351735 STOPS 46325 INDEX 10851335"
    ∷ codes "INDEX 556223009"
    ∷ []
    )

-- PROFILE and QUEUE of their fourth link, in millionths of a vehicle
abbrev pub profile_of_fourth : List ℕ
profile_of_fourth =
    ended
    (
    codes "IN 4 692824 440030 281729 182124 119102 78895 224142 194496 173166 157571 145393 136813 606959 895286 1071923 1179988 1245980 1098059"
    ∷ codes "GO 4 0 0 0 0 0 0 0 2015277 2015277 2015277 2015277 2015277 2015277 2015277 2015277 0 0 0"
    ∷ codes "OUT 4 0 0 0 0 0 0 0 2015277 2015277 2015277 167668 136813 606959 895286 1071923 0 0 0"
    ∷ []
    )

abbrev pub queue_of_fourth : List ℕ
queue_of_fourth = codes "QUEUE 4 4216851 4656881 4938610 5120734 5239836 5318731 5542873 3722092 1879981 22275 0 0 0 0 0 1179988 2425968 3524027" ++ 10 ∷ []
