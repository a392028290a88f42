-- Worked turns: over a network without links, where no move lowers the index, and over two of which no number is
-- neutral; and a network of which the last move alone lowers it.
use Rattle.std.specs.Prelude.{ℕ, [], ◌∷◌, None, Some}
use Rattle.transyt_parts.specs.Made.{new_stage, new_link, new_plan}
use Rattle.transyt_net.specs.Parts.{Network}
use Rattle.transyt_stage.specs.ThreeJunctions.{three_junctions}
use Rattle.transyt_track.specs.WorkedWork.{junctions}
use Rattle.transyt_session.specs.Session.{SessionValue}
use Rattle.transyt_climb.specs.Turns.{Counters, Machine, machine}

-- one node without links, whose first stage has as many steps as it needs
abbrev pub idle : Network
idle = record {
  frame = record { cycle = 90; step_count = 15; sweeps = 2; period = 45; stop_penalty = 37; dispersion = 40 };
  nodes = record { number = 21; offset = 4; stages = new_stage 2 1 3 ∷ new_stage 6 2 4 ∷ [] } ∷ [];
  links = [];
  plan = Some (record { budget = 7; sizes = 2 ∷ [] });
}

-- a session of it with some work
abbrev pub idle_session : SessionValue
idle_session = record { net = idle; before = None; work = 5 }

-- a session of a network with links and some work
abbrev pub junctions_session : SessionValue
junctions_session = record { net = junctions; before = None; work = 5 }

-- a climber before its fourth look, one place after its last step
abbrev pub on_way : ℕ → Counters
on_way budget = record { place = 4; since = 1; looked = 3; budget = budget; count = 6 }

-- the two together
abbrev pub way : ℕ → Machine
way budget = machine (on_way budget) idle_session

-- a climber that has gone once round the list, and has used up its budget too
abbrev pub gone_round : Counters
gone_round = record { place = 3; since = 6; looked = 9; budget = 9; count = 6 }

-- a climber that has used up its budget one place before that
abbrev pub used_up : Counters
used_up = record { place = 2; since = 5; looked = 9; budget = 9; count = 6 }

-- a session of three junctions, of which the first move lowers the index, and some work
abbrev pub three_session : SessionValue
three_session = record { net = three_junctions; before = None; work = 5 }

-- a climber at the first of their moves, before its ninth look and three places after its last step
abbrev pub before_step : Counters
before_step = record { place = 0; since = 3; looked = 8; budget = 250; count = 72 }

-- one junction whose first stage has as many steps as it needs, and a link that runs in its third: of its eight moves
-- only the last, by which that stage begins a step earlier, lowers the index
abbrev pub by_last : Network
by_last = record {
  frame = record { cycle = 60; step_count = 10; sweeps = 1; period = 60; stop_penalty = 100; dispersion = 35 };
  nodes = record { number = 21; offset = 4; stages = new_stage 2 1 2 ∷ new_stage 5 1 1 ∷ new_stage 9 1 1 ∷ [] } ∷ [];
  links = new_link 5 21 61 1733 3 2 0 0 (3 ∷ []) ∷ [];
  plan = Some (new_plan 7 (1 ∷ []));
}
