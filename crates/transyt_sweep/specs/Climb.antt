-- The climb: from a network, each lowering move in its turn.
use Rattle.std.specs.Prelude.{ℕ, zero, suc, ◌+◌, ◌-◌, ◌%◌, Bool, true, false, nat_le, nat_lt, List, [], ◌∷◌, ◌++◌}
use Rattle.std.specs.Prelude.{Option, Some, None, if◌then◌else◌}
use Rattle.std.specs.Option.{option_map}
use Rattle.transyt_net.specs.declared.edit.Edit.{Edit}
use Rattle.transyt_net.specs.Parts.{Network}
use Rattle.transyt_net.specs.Edits.{with_edit}
use Rattle.transyt_sweep.specs.Sweeps.{index}
use Rattle.transyt_net.specs.EditFaults.{edit_fault}
use Rattle.transyt_net.specs.declared.edit.EditFault.{EditFault}
use Rattle.transyt_moves.specs.Moves.{move, move_count}

-- the index with an edit made, where there is no fault of it; none where it is barred
abbrev pub index_with : Network → Edit → Option EditFault → Option ℕ
index_with net e None = Some (index (with_edit net e))
index_with net e (Some fault) = None

-- the index with the move at a place made, or none where it is barred
unfoldable pub tried_at : Network → ℕ → Option ℕ
tried_at net place = index_with net (move net place) (edit_fault net (move net place))

-- whether there is an index, and it is below another
abbrev pub is_below : ℕ → Option ℕ → Bool
is_below limit None = false
is_below limit (Some x) = nat_lt x limit

-- whether the move at a place is accepted and lowers the index
unfoldable pub lowers : Network → ℕ → Bool
lowers net place = is_below (index net) (tried_at net place)

-- the network with the move at a place made
unfoldable pub moved : Network → ℕ → Network
moved net place = with_edit net (move net place)

-- the least number below n that passes, or none
abbrev pub least : (ℕ → Bool) → ℕ → Option ℕ
least test zero = None
least test (suc n) = if test 0 then Some 0 else option_map (λ r. r + 1) (least (λ r. test (r + 1)) n)

-- how many places after place k, round the list, the first lowering move stands, or none
abbrev pub first : Network → ℕ → Option ℕ
first net k = least (λ r. lowers net ((k + r) % move_count net)) (move_count net)

-- a step that was taken: its place, the edit that was made, and the index after it
pub record Step : Type 0 where
  pub place : ℕ
  pub edit : Edit
  pub index : ℕ

-- the step at a place
abbrev pub step_at : Network → ℕ → Step
step_at net place = record { place = place; edit = move net place; index = index (moved net place) }

-- a place that was looked at, on the network as it was
pub record Look : Type 0 where
  pub net : Network
  pub place : ℕ

-- a climb: the steps taken, whether it ended since no move lowers, the places looked at, and the network at its
-- end
pub record Climb : Type 0 where
  pub steps : List Step
  pub local : Bool
  pub looks : List Look
  pub net : Network

-- the first n looks of a search that begins at place k
abbrev pub looks_from : Network → ℕ → ℕ → List Look
looks_from net k zero = []
looks_from net k (suc n) = record { net = net; place = k % move_count net } ∷ looks_from net (k + 1) n

-- a climb that takes no step
abbrev pub ended : Bool → Network → ℕ → ℕ → Climb
ended local net k looks = record { steps = []; local = local; looks = looks_from net k looks; net = net }

-- a climb that takes the step at a place after so many looks, and then goes on
abbrev pub stepped : Network → ℕ → ℕ → ℕ → Climb → Climb
stepped net k looks place rest = record {
  steps = step_at net place ∷ rest.steps;
  local = rest.local;
  looks = looks_from net k looks ++ rest.looks;
  net = rest.net;
}

-- the climb after a search of n places from place k with some looks left, where `rest` is the climb after a step
abbrev pub after_search : (Network → ℕ → ℕ → Climb) → Network → ℕ → ℕ → ℕ → Option ℕ → Climb
after_search rest net k n left None = if nat_le n left then ended true net k n else ended false net k left
after_search rest net k n left (Some r) =
    if nat_lt r left
    then stepped net k (r + 1) ((k + r) % move_count net)
    (rest (moved net ((k + r) % move_count net)) ((k + r) % move_count net) (left - (r + 1)))
    else ended false net k left

-- a climb of at most so many steps
abbrev pub climb_within : ℕ → Network → ℕ → ℕ → Climb
climb_within zero net k left = ended false net k left
climb_within (suc most) net k left = after_search (climb_within most) net k (move_count net) left (first net k)

-- the climb from place k with some looks left; each step takes a look, so it has no more steps than looks
unfoldable pub climb : Network → ℕ → ℕ → Climb
climb net k left = climb_within (left + 1) net k left
