-- Worked sweeps: a ring, a link that feeds itself, a link that gives way to a later one, and no link at all.
use Rattle.std.specs.Prelude.{ℕ, List, [], ◌∷◌, ◌++◌, replicate, Some}
use Rattle.transyt_parts.specs.Parts.{LinkValue}
use Rattle.transyt_parts.specs.Made.{new_stage, new_link, new_feed, new_rule, new_plan}
use Rattle.transyt_net.specs.Parts.{Network}

-- one node of two stages in a cycle of ten steps of six seconds, with this offset and second change, so many sweeps and
-- these links
abbrev pub one_node : ℕ → ℕ → ℕ → List LinkValue → Network
one_node offset change sweeps links = record {
  frame = record { cycle = 60; step_count = 10; sweeps = sweeps; period = 60; stop_penalty = 100; dispersion = 35 };
  nodes = record { number = 1; offset = offset; stages = new_stage 0 1 2 ∷ new_stage change 1 2 ∷ [] } ∷ [];
  links = links;
  plan = Some (new_plan 100 (1 ∷ []));
}

-- three links, each of which feeds the next, the last the first; the first gives way to the second
abbrev pub ring : Network
ring = one_node 3 6 3 (
    record (new_link 1 1 300 1200 1 1 0 0 (1 ∷ 2 ∷ [])) {
      feeds = new_feed 3 120 10 ∷ [];
      gives_way = Some (new_rule 2 60);
    }
    ∷ record (new_link 2 1 240 900 1 1 1 2 (1 ∷ [])) { feeds = new_feed 1 200 15 ∷ [] }
    ∷ record (new_link 3 1 0 1500 1 1 0 0 (2 ∷ [])) { feeds = new_feed 2 150 20 ∷ [] }
    ∷ [])

-- the departures of each link of the ring before the first sweep and at each of three sweeps
abbrev pub outs_of_ring : List (List (List ℕ))
outs_of_ring =
    (replicate 10 700000
    ∷ replicate 10 733333
    ∷ replicate 10 250000 ∷ [])
    ∷ (replicate 10 700000
    ∷ (733333 ∷ 0 ∷ 0 ∷ 0 ∷ 0 ∷ 1500000 ∷ 1500000 ∷ 1500000 ∷ 1366664 ∷ 733333 ∷ [])
    ∷ (replicate 1 1689194 ++ replicate 1 455434 ++ replicate 1 355221 ++ replicate 7 0) ∷ [])
    ∷ ((500027 ∷ 1501010 ∷ 1029407 ∷ 847754 ∷ 590158 ∷ 523374 ∷ 506059 ∷ 501570 ∷ 500407 ∷ 500105 ∷ [])
    ∷ (replicate 1 642300 ++ replicate 4 0 ++ replicate 4 1500000 ++ replicate 1 690972)
    ∷ (replicate 1 1662775 ++ replicate 1 477546 ++ replicate 1 359503 ++ replicate 7 0) ∷ [])
    ∷ ((500027 ∷ 1485355 ∷ 1038452 ∷ 852637 ∷ 591424 ∷ 523702 ∷ 506144 ∷ 501592 ∷ 500412 ∷ 500106 ∷ [])
    ∷ (replicate 1 642344 ++ replicate 4 0 ++ replicate 4 1500000 ++ replicate 1 690915)
    ∷ (replicate 1 1662781 ++ replicate 1 477546 ++ replicate 1 359493 ++ replicate 7 0) ∷ [])
    ∷ []

-- a link that feeds itself: its arrivals at two sweeps
abbrev pub fed_by_itself : Network
fed_by_itself =
    one_node 0 5 2 (record (new_link 1 1 360 180 1 1 0 0 (1 ∷ 2 ∷ [])) { feeds = new_feed 1 180 15 ∷ [] } ∷ [])

-- at the first sweep its departures before any, at the second its green capacity
abbrev pub arrivals_of_itself : List (List ℕ)
arrivals_of_itself = replicate 10 900000 ∷ replicate 10 700000 ∷ []

-- a link that gives way to one after it, of which it reads the sweep before
abbrev pub gives_way_to_later : Network
gives_way_to_later =
    one_node 0 5 1 (
    record (new_link 2 1 360 1800 1 1 0 0 (1 ∷ 2 ∷ [])) { gives_way = Some (new_rule 1 100) }
    ∷ new_link 1 1 360 1800 1 1 0 0 (1 ∷ [])
    ∷ [])

-- a network without links
abbrev pub no_links : Network
no_links = one_node 0 5 1 []
