-- The first step of a climb, and steps with another edit or index, which are none; a node whose plan isn't allowed; two
-- steps, one after another, the network to which they lead, and a step between them with which they lead to none.
use Rattle.std.specs.Prelude.{List, [], ◌∷◌}
use Rattle.transyt_parts.specs.Made.{new_stage}
use Rattle.transyt_parts.specs.Parts.{NodeValue}
use Rattle.transyt_net.specs.declared.edit.Edit.TheVariants.{Offset, Change}
use Rattle.transyt_net.specs.Parts.{Network}
use Rattle.transyt_sweep.specs.Climb.{Step}
use Rattle.transyt_climb.specs.WorkedTurns.{idle, by_last}

-- the first step of a climb of the three junctions
abbrev pub first_step : Step
first_step = record { place = 0; edit = Offset 21 8; index = 554272112 }

-- another edit than that of its place, and another index
abbrev pub wrong_steps : List Step
wrong_steps =
    record first_step { edit = Offset 21 9 }
    ∷ record first_step { index = 554272111 }
    ∷ []

-- the first move of a network without links, with which its index of 0 stays
abbrev pub idle_step : Step
idle_step = record { place = 0; edit = Offset 21 6; index = 0 }

-- a node whose second stage begins after the last of 15 steps, though not after the last of 90 seconds
abbrev pub late_node : NodeValue
late_node = record { number = 21; offset = 4; stages = new_stage 2 1 3 ∷ new_stage 16 2 4 ∷ [] }

-- a network of it
abbrev pub late_stage : Network
late_stage = record idle { nodes = late_node ∷ [] }

-- two steps on one junction with a link that runs in its third stage: by each of them that stage begins a step earlier
abbrev pub earlier : Step
earlier = record { place = 7; edit = Change 21 3 8; index = 1077043 }

abbrev pub earlier_again : Step
earlier_again = record { place = 7; edit = Change 21 3 7; index = 805534 }

-- the node with its last change at step 7, and the network of it
abbrev pub early_node : NodeValue
early_node = record {
  number = 21;
  offset = 4;
  stages = new_stage 2 1 2 ∷ new_stage 5 1 1 ∷ new_stage 7 1 1 ∷ [];
}

abbrev pub after_two : Network
after_two = record by_last { nodes = early_node ∷ [] }

-- an offset a step on, with which the index stays: between the two steps it leads to no network
abbrev pub stays : Step
stays = record { place = 0; edit = Offset 21 5; index = 1077043 }
