-- Towns that were worked out by hand: the whole one of one node, and parts of one of ten and of one of sixteen.
use Rattle.std.specs.Prelude.{ℕ, List, [], ◌∷◌, Option, Some, None}
use Rattle.transyt_parts.specs.declared.link.Feed.{Feed}
use Rattle.transyt_parts.specs.Parts.{NodeValue, LinkValue}
use Rattle.transyt_parts.specs.Made.{new_stage, new_feed, new_link, new_plan}
use Rattle.transyt_net.specs.Parts.{Network}

-- the first six draws from seed 1, before the remainder is taken
abbrev pub worked_draws : List ℕ
worked_draws = 16838 ∷ 5758 ∷ 10113 ∷ 17515 ∷ 31051 ∷ 5627 ∷ []

-- the town of one node from seed 1
abbrev pub town_of_one : Network
town_of_one = record {
  frame = record { cycle = 100; step_count = 50; sweeps = 3; period = 60; stop_penalty = 100; dispersion = 35 };
  nodes = record { number = 1; offset = 38; stages = new_stage 0 3 4 ∷ new_stage 19 3 4 ∷ [] } ∷ [];
  links = new_link 11 1 363 1800 1 1 0 0 (1 ∷ []) ∷ new_link 12 1 328 1800 1 1 0 0 (1 ∷ [])
      ∷ new_link 13 1 397 1800 1 1 0 0 (2 ∷ []) ∷ new_link 14 1 500 1800 1 1 0 0 (2 ∷ []) ∷ [];
  plan = Some (new_plan 2000 (1 ∷ 8 ∷ 20 ∷ []));
}

-- nodes 8 and 10 of the town of ten nodes from seed 999999999
abbrev pub nodes_of_ten : List NodeValue
nodes_of_ten =
    record { number = 8; offset = 41; stages = new_stage 0 3 4 ∷ new_stage 19 3 4 ∷ [] }
    ∷ record { number = 10; offset = 25; stages = new_stage 0 3 4 ∷ new_stage 19 3 4 ∷ [] } ∷ []

-- a link with its feeds
abbrev pub fed_link : ℕ → ℕ → ℕ → ℕ → List Feed → LinkValue
fed_link number node entry stage feeds =
    record (new_link number node entry 1800 1 1 0 0 (stage ∷ [])) { feeds = feeds }

-- links of that town: one from each of the four sides, and two at the ends of a row
abbrev pub links_of_ten : List LinkValue
links_of_ten =
    fed_link 12 1 16 1 (new_feed 22 270 24 ∷ new_feed 23 75 24 ∷ new_feed 24 74 24 ∷ [])
    ∷ fed_link 24 2 39 2 (new_feed 104 277 23 ∷ new_feed 101 94 23 ∷ new_feed 102 97 23 ∷ [])
    ∷ fed_link 82 8 485 1 []
    ∷ fed_link 91 9 373 1 []
    ∷ fed_link 101 10 10 1 (new_feed 91 274 15 ∷ new_feed 93 60 15 ∷ new_feed 94 92 15 ∷ [])
    ∷ fed_link 103 10 17 2 (new_feed 23 266 30 ∷ new_feed 21 68 30 ∷ new_feed 22 96 30 ∷ []) ∷ []

-- links of the town of sixteen nodes from the same seed: at the ends of two rows, from below and from above
abbrev pub links_of_sixteen : List LinkValue
links_of_sixteen =
    fed_link 84 8 14 2 (new_feed 164 251 26 ∷ new_feed 161 60 26 ∷ new_feed 162 79 26 ∷ [])
    ∷ fed_link 163 16 23 2 (new_feed 83 263 19 ∷ new_feed 81 85 19 ∷ new_feed 82 77 19 ∷ []) ∷ []

-- nodes and sides in a town of sixteen, with the neighbour there, at both ends of two rows
abbrev pub neighbours_in_sixteen : List ((ℕ × ℕ) × Option ℕ)
neighbours_in_sixteen =
    ((8, 1), Some 7) ∷ ((8, 2), None) ∷ ((8, 3), None) ∷ ((8, 4), Some 16) ∷ ((9, 1), None) ∷ ((9, 2), Some 10)
    ∷ ((9, 3), Some 1) ∷ ((9, 4), None) ∷ ((16, 1), Some 15) ∷ ((16, 2), None) ∷ ((16, 3), Some 8)
    ∷ ((16, 4), None) ∷ []
