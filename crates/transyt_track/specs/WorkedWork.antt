-- A worked network with the work of an edit of each kind, of a climb and of its certificate; and a loop of links.
use Rattle.std.specs.Prelude.{ℕ, List, [], ◌∷◌, Bool, true, false, Some, None}
use Rattle.transyt_parts.specs.declared.link.Feed.{Feed}
use Rattle.transyt_parts.specs.Parts.{LinkValue}
use Rattle.transyt_parts.specs.Made.{new_stage, new_feed, new_rule, new_weights, new_link}
use Rattle.transyt_net.specs.declared.edit.Edit.{Edit}
use Rattle.transyt_net.specs.declared.edit.Edit.TheVariants.{Offset, Change, Entry, Part, Cruise, Saturation, Weight}
use Rattle.transyt_net.specs.Parts.{Network}
use Rattle.transyt_net.specs.Edits.{with_edit}
use Rattle.transyt_sweep.specs.Climb.{Look}
use Rattle.transyt_track.specs.Own.{Own}

-- two junctions and three links, no number of which is neutral: link 9 is fed by link 5, which it feeds too, and link 4
-- is fed by link 9 and gives way to link 5
abbrev pub junctions : Network
junctions = record {
  frame = record { cycle = 90; step_count = 15; sweeps = 2; period = 45; stop_penalty = 37; dispersion = 40 };
  nodes = record { number = 21; offset = 4; stages = new_stage 2 1 3 ∷ new_stage 7 2 4 ∷ [] }
      ∷ record { number = 7; offset = 13; stages = new_stage 5 3 2 ∷ new_stage 14 1 3 ∷ [] } ∷ [];
  links = record {
    number = 5;
    node = 21;
    entry = 431;
    saturation = 1733;
    weights = new_weights 3 2;
    start_lag = 1;
    end_lag = 2;
    stages = 1 ∷ [];
    feeds = new_feed 9 88 9 ∷ [];
    gives_way = None;
  } ∷ record {
    number = 9;
    node = 7;
    entry = 97;
    saturation = 1619;
    weights = new_weights 5 7;
    start_lag = 0;
    end_lag = 1;
    stages = 2 ∷ [];
    feeds = new_feed 5 311 23 ∷ [];
    gives_way = None;
  } ∷ record {
    number = 4;
    node = 7;
    entry = 151;
    saturation = 907;
    weights = new_weights 4 1;
    start_lag = 2;
    end_lag = 0;
    stages = 1 ∷ 2 ∷ [];
    feeds = new_feed 9 77 61 ∷ [];
    gives_way = Some (new_rule 5 150);
  } ∷ [];
  plan = Some (record { budget = 5; sizes = 1 ∷ [] });
}

-- the own data of its links
abbrev pub own_three : List Own
own_three = record {
  entry = 431;
  saturation = 1733;
  offset = 4;
  changes = 2 ∷ 7 ∷ [];
  flows = 88 ∷ [];
  cruises = 9 ∷ [];
  totals = 408 ∷ [];
} ∷ record {
  entry = 97;
  saturation = 1619;
  offset = 13;
  changes = 5 ∷ 14 ∷ [];
  flows = 311 ∷ [];
  cruises = 23 ∷ [];
  totals = 519 ∷ [];
} ∷ record {
  entry = 151;
  saturation = 907;
  offset = 13;
  changes = 5 ∷ 14 ∷ [];
  flows = 77 ∷ [];
  cruises = 61 ∷ [];
  totals = 408 ∷ [];
} ∷ []

-- edits of it, each with its work; that of the first cruise time leaves the travel at three steps
abbrev pub worked_edits : List (Edit × ℕ)
worked_edits =
    (Offset 21 9, 6)
    ∷ (Offset 7 3, 5)
    ∷ (Offset 21 15, 0)
    ∷ (Change 21 2 8, 6)
    ∷ (Weight 9 (new_weights 1 99), 0)
    ∷ (Cruise 9 5 22, 2)
    ∷ (Cruise 4 9 64, 2)
    ∷ (Part 5 9 0, 6)
    ∷ (Part 4 9 300, 2)
    ∷ (Entry 4 0, 2)
    ∷ (Entry 9 9999, 6)
    ∷ (Saturation 4 1800, 2)
    ∷ []

-- places that a climb looks at: two on the network, and one after its first move was made
abbrev pub worked_looks : List Look
worked_looks =
    record { net = junctions; place = 0 }
    ∷ record { net = junctions; place = 6 }
    ∷ record { net = with_edit junctions (Offset 21 5); place = 10 }
    ∷ []

-- a link that is always green
abbrev pub green_link : ℕ → ℕ → List Feed → LinkValue
green_link number entry feeds = record (new_link number 1 entry 1800 1 1 0 0 (1 ∷ 2 ∷ [])) { feeds = feeds }

-- three links in a loop, each fed by the next, with the entry flow of the third
abbrev pub loop_of_three : ℕ → Network
loop_of_three entry = record {
  frame = record { cycle = 60; step_count = 10; sweeps = 3; period = 60; stop_penalty = 100; dispersion = 35 };
  nodes = record { number = 1; offset = 0; stages = new_stage 0 1 2 ∷ new_stage 5 1 2 ∷ [] } ∷ [];
  links = green_link 1 360 (new_feed 2 180 15 ∷ [])
      ∷ green_link 2 360 (new_feed 3 180 15 ∷ [])
      ∷ green_link 3 entry (new_feed 1 180 15 ∷ []) ∷ [];
  plan = None;
}

-- two links that nothing feeds, the second with this saturation flow, and a third that both of them feed
abbrev pub fed_by_two : ℕ → Network
fed_by_two saturation = record (loop_of_three 360) {
  links = green_link 1 360 []
      ∷ record (green_link 2 360 []) { saturation = saturation }
      ∷ green_link 3 0 (new_feed 1 180 15 ∷ new_feed 2 90 30 ∷ []) ∷ [];
}

-- the places of its three links, and whether each is due where the second lets go less than comes to it: the third for
-- one of the two that it reads
abbrev pub due_of_three : List (ℕ × Bool)
due_of_three = (0, false) ∷ (1, true) ∷ (2, true) ∷ []
