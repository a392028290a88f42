-- A worked network in which no number is neutral, and what each edit makes of it.
use Rattle.std.specs.Prelude.{ℕ, List, [], ◌∷◌, Some, None}
use Rattle.transyt_parts.specs.declared.frame.Frame.{Frame}
use Rattle.transyt_net.specs.Parts.{Network, with_cycle, with_signals, NodeValue, LinkValue, shape}
use Rattle.transyt_parts.specs.Made.{new_stage, new_feed, new_rule, new_plan, new_link, new_weights}
use Rattle.transyt_net.specs.Edits.{Edit, Offset, Change, Entry, Part, Cruise, Saturation, Weight, with_edit, inverse}
use Rattle.transyt_net.specs.Faults.{empty, with_node, with_stage, with_link, with_feed, with_rule, with_plan}

-- a cycle of 90 seconds in 18 steps
abbrev pub frame : Frame
frame = record { cycle = 90; step_count = 18; sweeps = 3; period = 45; stop_penalty = 37; dispersion = 40 }

-- two nodes: the first with this offset, and this change of its second stage
abbrev pub signals : ℕ → ℕ → List NodeValue
signals offset change = record {
  number = 21;
  offset = offset;
  stages = record { change = 2; intergreen = 1; least = 3 } ∷ record { change = change; intergreen = 2; least = 4 }
      ∷ record { change = 15; intergreen = 0; least = 1 } ∷ [];
} ∷ record {
  number = 7;
  offset = 17;
  stages = record { change = 5; intergreen = 3; least = 2 } ∷ record { change = 16; intergreen = 1; least = 5 } ∷ [];
} ∷ []

-- three links: the last with these flows and weights, and fed by the first with this flow in this time
abbrev pub streets : ℕ → ℕ → ℕ → ℕ → ℕ → ℕ → List LinkValue
streets entry saturation delay stop flow cruise = record {
  number = 5;
  node = 21;
  entry = 431;
  saturation = 1733;
  weights = new_weights 3 2;
  start_lag = 1;
  end_lag = 2;
  stages = 1 ∷ [];
  feeds = [];
  gives_way = None;
} ∷ record {
  number = 9;
  node = 7;
  entry = 613;
  saturation = 1877;
  weights = new_weights 2 11;
  start_lag = 2;
  end_lag = 0;
  stages = 2 ∷ [];
  feeds = [];
  gives_way = None;
} ∷ record {
  number = 4;
  node = 7;
  entry = entry;
  saturation = saturation;
  weights = new_weights delay stop;
  start_lag = 3;
  end_lag = 1;
  stages = 2 ∷ 1 ∷ [];
  feeds = record { feeder = 9; flow = 77; cruise = 61 } ∷ record { feeder = 5; flow = flow; cruise = cruise } ∷ [];
  gives_way = Some (record { other = 9; percent = 35 });
} ∷ []

-- a network of such nodes and links
abbrev pub of : List NodeValue → List LinkValue → Network
of nodes links =
    record { frame = frame; nodes = nodes; links = links; plan = Some (record { budget = 250; sizes = 4 ∷ 1 ∷ 7 ∷ [] }) }

-- the network
abbrev pub town : Network
town = of (signals 4 8) (streets 151 1451 4 6 311 23)

-- its nodes, as a draft makes them
abbrev pub drawn_nodes : Network
drawn_nodes =
    with_stage (with_stage (with_node (with_stage (with_stage (with_stage (with_node (empty frame) 21 4)
    (new_stage 2 1 3)) (new_stage 8 2 4)) (new_stage 15 0 1)) 7 17) (new_stage 5 3 2)) (new_stage 16 1 5)

-- the network, as a draft makes it
abbrev pub drawn : Network
drawn =
    with_plan (with_rule (with_feed (with_feed (with_link (with_link (with_link drawn_nodes
    (new_link 5 21 431 1733 3 2 1 2 (1 ∷ []))) (new_link 9 7 613 1877 2 11 2 0 (2 ∷ [])))
    (new_link 4 7 151 1451 4 6 3 1 (2 ∷ 1 ∷ []))) 4 (new_feed 9 77 61)) 4 (new_feed 5 311 23)) 4 (new_rule 9 35))
    (new_plan 250 (4 ∷ 1 ∷ 7 ∷ []))

-- networks, with what they come to: the drawn one, each edit, the cycle, and the shape
abbrev pub networks : List (Network × Network)
networks =
    (drawn, town)
    ∷ (with_edit town (Offset 21 9), of (signals 9 8) (streets 151 1451 4 6 311 23))
    ∷ (with_edit town (Change 21 2 7), of (signals 4 7) (streets 151 1451 4 6 311 23))
    ∷ (with_edit town (Entry 4 153), of (signals 4 8) (streets 153 1451 4 6 311 23))
    ∷ (with_edit town (Saturation 4 1457), of (signals 4 8) (streets 151 1457 4 6 311 23))
    ∷ (with_edit town (Weight 4 (new_weights 12 13)), of (signals 4 8) (streets 151 1451 12 13 311 23))
    ∷ (with_edit town (Part 4 5 313), of (signals 4 8) (streets 151 1451 4 6 313 23))
    ∷ (with_edit town (Cruise 4 5 29), of (signals 4 8) (streets 151 1451 4 6 311 29))
    ∷ (with_edit town (Offset 22 9), town)
    ∷ (with_cycle town 91, record town { frame = record frame { cycle = 91 } })
    ∷ (
      with_signals town (record frame { cycle = 85; step_count = 17 }) (signals 9 7),
      record (of (signals 9 7) (streets 151 1451 4 6 311 23)) { frame = record frame { cycle = 85; step_count = 17 } },
    )
    ∷ (shape town, shape (of (signals 9 7) (streets 153 1457 12 13 313 29)))
    ∷ []

-- the edits that take these back
abbrev pub inverses : List (Edit × Edit)
inverses =
    (inverse town (Offset 21 9), Offset 21 4)
    ∷ (inverse town (Change 21 2 7), Change 21 2 8)
    ∷ (inverse town (Entry 4 153), Entry 4 151)
    ∷ (inverse town (Saturation 4 1457), Saturation 4 1451)
    ∷ (inverse town (Weight 4 (new_weights 12 13)), Weight 4 (new_weights 4 6))
    ∷ (inverse town (Part 4 5 313), Part 4 5 311)
    ∷ (inverse town (Cruise 4 5 29), Cruise 4 5 23)
    ∷ (inverse town (Offset 22 9), Offset 22 0)
    ∷ (inverse town (Part 4 7 9), Part 4 7 0)
    ∷ (inverse town (Cruise 4 7 9), Cruise 4 7 0)
    ∷ (inverse town (Entry 6 9), Entry 6 0)
    ∷ (inverse town (Saturation 6 9), Saturation 6 0)
    ∷ (inverse town (Weight 6 (new_weights 9 8)), Weight 6 (new_weights 0 0))
    ∷ []
