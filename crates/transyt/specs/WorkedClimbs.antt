-- Worked climbs: such as descend, and such as are wrong in one thing.
use Rattle.std.specs.Prelude.{ℕ, Bool, List, [], ◌∷◌, true, false}
use Rattle.transyt_parts.specs.Made.{new_stage}
use Rattle.transyt_parts.specs.Parts.{NodeValue}
use Rattle.transyt_net.specs.declared.edit.Edit.TheVariants.{Change}
use Rattle.transyt_net.specs.Parts.{Network}
use Rattle.transyt_net.specs.Edits.{with_edit}
use Rattle.transyt_sweep.specs.Climb.{Climb, Step, looks_from}
use Rattle.transyt_climb.specs.WorkedTurns.{idle, by_last}
use Rattle.transyt_line_answers.specs.WorkedLowering.{earlier, earlier_again, stays, after_two}

-- a climb of seven looks by these steps to this network, which its budget ended
abbrev pub climb_to : List Step → Network → Climb
climb_to steps net = record { steps = steps; local = false; looks = looks_from by_last 0 7; net = net }

-- by two steps to the network after both
abbrev pub by_two : Climb
by_two = climb_to (earlier ∷ earlier_again ∷ []) after_two

-- to the network after the first of them, and with a step between them that doesn't lower the index
abbrev pub to_first : Climb
to_first = climb_to (earlier ∷ earlier_again ∷ []) (with_edit by_last earlier.edit)

abbrev pub by_three : Climb
by_three = climb_to (earlier ∷ stays ∷ earlier_again ∷ []) after_two

-- a climb without a step that ends since no move lowers the index
abbrev pub at_once : Network → ℕ → Climb
at_once net looks = record { steps = []; local = true; looks = looks_from net 0 looks; net = net }

-- the network whose last move lowers the index, but that its second stage has to be green for three steps, so that the
-- move is barred
abbrev pub barred : Network
barred = record by_last {
  nodes = record {
    number = 21;
    offset = 4;
    stages = new_stage 2 1 2 ∷ new_stage 5 1 3 ∷ new_stage 9 1 1 ∷ [];
  } ∷ [];
}

-- the same network after a node whose first stage is too short, which no move of the other node mends
abbrev pub short_node : NodeValue
short_node = record { number = 22; offset = 3; stages = new_stage 2 1 3 ∷ new_stage 4 2 3 ∷ [] }

abbrev pub unplanned : Network
unplanned = record by_last { nodes = short_node ∷ by_last.nodes }

-- its move that lowers the index
abbrev pub earlier_there : Step
earlier_there = record { place = 13; edit = Change 21 3 8; index = 1077043 }
