-- Stretches: the moves that the desks of a round try, up to the first that lowers the index, and what the tries come to.
use Rattle.std.specs.Prelude.{◌≡◌, ℕ, zero, suc, ◌+◌, ◌*◌, ◌%◌, ◌<◌, ◌≤◌, nat_lt, false, if◌then◌else◌, List}
use Rattle.std.specs.Prelude.{Option, Some, None, length, slice_index_or}
use Rattle.transyt_net.specs.declared.edit.Edit.{Edit}
use Rattle.transyt_net.specs.Edits.{with_edit}
use Rattle.transyt_net.specs.Parts.{Network}
use Rattle.transyt_moves.specs.Moves.{move}
use Rattle.transyt_sweep.specs.Climb.{lowers}
use Rattle.transyt_sweep.specs.Sweeps.{index}
use Rattle.transyt_track.specs.Due.{edit_work}
use Rattle.transyt_session.specs.declared.answers.Tried.{Tried}
use Rattle.transyt_session.specs.declared.answers.Tried.TheVariants.{Barred, Index}
use Rattle.transyt_session.specs.Session.{standing_for, try_of}
use Rattle.transyt_desks.specs.declared.desk.Desk.{Desk}
use Rattle.transyt_desks.specs.declared.results.TryResults.{TryResults}
use Rattle.transyt_desks.specs.declared.results.MadeMove.{MadeMove}
use Rattle.transyt_desks.specs.declared.batch.Batch.{Batch}
use Rattle.transyt_desks.specs.declared.stretch.Stretch.{Stretch}
use Rattle.transyt_desks.specs.Desks.{no_desk}

-- the place of the move with a number, from a place on, round the list
abbrev pub place_at : ℕ → ℕ → ℕ → ℕ
place_at place count number = (place + number) % count

-- the edit that a desk makes by the result of a try of it: it is allowed and brings the index below a bound
abbrev pub made_by : ℕ → Edit → Tried → Option MadeMove
made_by bound e Barred = None
made_by bound e (Index index work) = if nat_lt index bound then Some (record { edit = e; index = index; work = work }) else None

-- the move at a place, where a desk makes it
abbrev pub made_at : Network → ℕ → ℕ → Option MadeMove
made_at net bound place = made_by bound (move net place) (try_of net (move net place))

-- the network with the move that was made, if one was
abbrev pub net_made : Option MadeMove → Network → Network
net_made None net = net
net_made (Some made) net = with_edit net made.edit

-- one move more with this work doesn't lower the index
abbrev pub passing : Stretch → ℕ → Stretch
passing s work = record { passed = s.passed + 1; work = s.work + work; made = None }

-- the work of a try: none where the move is barred
abbrev pub work_found : Tried → ℕ
work_found Barred = 0
work_found (Index index work) = work

-- the work of the moves before a number
abbrev pub work_before : Network → ℕ → ℕ → ℕ → ℕ
work_before net place count zero = 0
work_before net place count (suc n) =
    work_before net place count n + edit_work net (move net (place_at place count n))

-- the first moves of a network from a place on, tried in the list's order up to the first that lowers the index, which was
-- made
pub record IsStretch (net : Network) (place count to : ℕ) (s : Stretch) : Type 0 where
  pub inside : s.passed ≤ to
  pub passes : (k : ℕ) → k < s.passed → lowers net (place_at place count k) ≡ false
  pub work : s.work ≡ work_before net place count s.passed
  pub few : s.work ≤ 8000 * s.passed
  pub next : (made : MadeMove) → s.made ≡ Some made → s.passed < to
  pub found : (made : MadeMove) → s.made ≡ Some made → made_at net (index net) (place_at place count s.passed) ≡ Some made
  pub small : (made : MadeMove) → s.made ≡ Some made → made.work ≤ 8000
  pub whole : s.made ≡ None → s.passed ≡ to

-- the tries of so many moves of a network at these places, each of little work
pub record AreTriesAt (net : Network) (places : ℕ → ℕ) (count : ℕ) (tries : List Tried) : Type 0 where
  pub each : (k : ℕ) (d : Tried) → k < count → slice_index_or tries k d ≡ try_of net (move net (places k))
  pub few : (k : ℕ) → k < count → edit_work net (move net (places k)) ≤ 8000

-- the tries of so many consecutive moves from a place on
abbrev pub AreTriesOf : Network → ℕ → ℕ → List Tried → Type 0
AreTriesOf net from count tries = AreTriesAt net (λ k. from + k) count tries

-- the places of a batch that come in turn to a desk
abbrev pub turn_place : Batch → ℕ → ℕ → ℕ
turn_place batch desk turn = place_at batch.place batch.count (desk + turn * batch.desks)

-- what a desk found by trying the moves of a batch that come to it in turn, up to the first that it made
pub record AreResults (net : Network) (batch : Batch) (desk : ℕ) (results : TryResults) : Type 0 where
  pub tries : AreTriesAt net (turn_place batch desk) results.passed results.tries
  pub passes : (turn : ℕ) → turn < results.passed → made_at net batch.bound (turn_place batch desk turn) ≡ None
  pub next : (made : MadeMove) → results.made ≡ Some made → desk + results.passed * batch.desks < batch.room
  pub found : (made : MadeMove) → results.made ≡ Some made
      → made_at net batch.bound (turn_place batch desk results.passed) ≡ Some made
  pub small : (made : MadeMove) → results.made ≡ Some made → made.work ≤ 8000
  pub whole : results.made ≡ None → (turn : ℕ) → desk + turn * batch.desks < batch.room → turn < results.passed

-- a desk that has come to a network and has tried its moves of a batch on it, before and after. No public clause cites it.
pub record HasTried (net : Network) (batch : Batch) (desk : ℕ) (before after : Desk) : Type 0 where
  pub session : after.session ≡ standing_for (net_made after.results.made net) before.session
  pub results : AreResults net batch desk after.results

-- desks that have each done so, before and after. No public clause cites it.
pub record HaveTried (net : Network) (batch : Batch) (olds news : List Desk) : Type 0 where
  pub len : length news ≡ length olds
  pub each : (k : ℕ) (d : Desk) → k < length olds → HasTried net batch k (slice_index_or olds k d) (slice_index_or news k d)

-- desks that have each tried their moves of a batch on this network
pub record AreTried (net : Network) (batch : Batch) (desks : List Desk) : Type 0 where
  pub count : batch.desks ≡ length desks
  pub each : (k : ℕ) → k < length desks → AreResults net batch k (slice_index_or desks k no_desk).results

-- the desk whose turn it was has made the move that ends a stretch
pub record MadeAt (batch : Batch) (desks : List Desk) (s : Stretch) : Type 0 where
  pub inside : s.passed % batch.desks < length desks
  pub made : (slice_index_or desks (s.passed % batch.desks) no_desk).results.made ≡ s.made
