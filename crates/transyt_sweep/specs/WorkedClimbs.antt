-- Worked climbs over a network of one node and no link, where no move changes the index and two are barred.
use Rattle.std.specs.Prelude.{ℕ, List, [], ◌∷◌, ◌++◌, map, Option, Some, None, Bool, true, false}
use Rattle.transyt_net.specs.declared.edit.Edit.TheVariants.{Offset}
use Rattle.transyt_net.specs.Parts.{Network}
use Rattle.transyt_sweep.specs.Climb.{Climb, Look, Step}
use Rattle.transyt_sweep.specs.WorkedSweeps.{one_node}

-- a node whose first stage has three steps, as many as it needs, without links
abbrev pub idle : Network
idle = one_node 0 3 1 []

-- the same with an offset of nine steps
abbrev pub turned : Network
turned = one_node 9 3 1 []

-- the same without a climb plan, so that there is no move
abbrev pub planless : Network
planless = record idle { plan = None }

-- the finds of its six moves: an offset never is barred, and a first stage of two steps is
abbrev pub tried_in_idle : List (Option ℕ)
tried_in_idle = Some 0 ∷ Some 0 ∷ None ∷ Some 0 ∷ Some 0 ∷ None ∷ []

-- a limit, an index, and whether it is below the limit
abbrev pub limits : List (ℕ × Option ℕ × Bool)
limits = (5, Some 4, true) ∷ (5, Some 5, false) ∷ (5, Some 6, false) ∷ (5, None, false) ∷ []

-- a number, a limit, and the number where it is below the limit
abbrev pub leasts : List (ℕ × ℕ × Option ℕ)
leasts = (3, 5, Some 3) ∷ (3, 4, Some 3) ∷ (3, 3, None) ∷ (0, 1, Some 0) ∷ (0, 0, None) ∷ []

-- a look at a place of a network
abbrev pub look : Network → ℕ → Look
look net place = record { net = net; place = place }

-- a climb on a network that took no step and looked at these places
abbrev pub stayed : Bool → Network → List ℕ → Climb
stayed local net places = record { steps = []; local = local; looks = map (look net) places; net = net }

-- a step back of the offset, which is the move at place 1
abbrev pub step_back : Step
step_back = record { place = 1; edit = Offset 1 9; index = 0 }

-- a climb that looks at places 5, 0 and 1, takes the last, and then looks at all six from there
abbrev pub stepped_back : Climb
stepped_back = record {
  steps = step_back ∷ [];
  local = true;
  looks = map (look idle) (5 ∷ 0 ∷ 1 ∷ []) ++ map (look turned) (1 ∷ 2 ∷ 3 ∷ 4 ∷ 5 ∷ 0 ∷ []);
  net = turned;
}
