-- A climb on its way: the steps done, the climb left, and the whole of it.
use Rattle.std.specs.Prelude.{ℕ, ◌≡◌, ◌+◌, ◌-◌, ◌%◌, ◌<◌, ◌≤◌, Bool, false, List, ◌++◌, length, None}
use Rattle.transyt_net.specs.Parts.{Network}
use Rattle.transyt_moves.specs.Moves.{move_count}
use Rattle.transyt_sweep.specs.Climb.{Climb, Step, after_search, least, lowers, climb}
use Rattle.transyt_session.specs.Session.{SessionValue}
use Rattle.transyt_track.specs.Due.{work_of}
use Rattle.transyt_climb.specs.declared.turn.Turn.{Turn}
use Rattle.transyt_climb.specs.declared.turn.Turn.TheVariants.{Passed}
use Rattle.transyt_climb.specs.Turns.{Machine, answer_of, turns, answers, steps_in, is_local}

-- a climber that belongs to its session's network
pub record IsReady (m : Machine) : Type 0 where
  pub count : m.counters.count ≡ move_count m.session.net
  pub since : m.counters.since ≤ m.counters.count
  pub looked : m.counters.looked ≤ m.counters.budget
  pub place : 0 < m.counters.count → m.counters.place < m.counters.count

-- some turns of which all but the last pass: the state before and after them, their number, and the last answer
pub record IsRound (before after : Machine) (count : ℕ) (last : Turn) : Type 0 where
  pub some : 0 < count
  pub after_is : after ≡ turns count before
  pub passed : (k : ℕ) → k + 1 < count → answer_of (turns k before) ≡ Passed
  pub last_is : last ≡ answer_of (turns (count - 1) before)

-- a search of n places from place k, with some looks left, and the climb after it
abbrev pub onward : Network → ℕ → ℕ → ℕ → Climb
onward net k n left = after_search climb net k n left (least (λ r. lowers net ((k + r) % move_count net)) n)

-- the climb that a state has before it
unfoldable pub climb_left : Machine → Climb
climb_left m =
    onward m.session.net m.counters.place (m.counters.count - m.counters.since) (m.counters.budget - m.counters.looked)

-- a climb that began with some work and has come to a state: the whole of it is the steps done and the climb left
pub record HasCome (whole : Climb) (work : ℕ) (done : List Step) (m : Machine) (left : Climb) : Type 0 where
  pub ready : IsReady m
  pub steps : whole.steps ≡ done ++ left.steps
  pub local : whole.local ≡ left.local
  pub net : whole.net ≡ left.net
  pub looks : length whole.looks ≡ m.counters.looked + length left.looks
  pub work_is : work + work_of whole.looks ≡ m.session.work + work_of left.looks

-- a climb on its way in a state, in which no trial is open
pub record IsUnderWay (whole : Climb) (work : ℕ) (done : List Step) (m : Machine) : Type 0 where
  pub closed : m.session.before ≡ None
  pub come : HasCome whole work done m (climb_left m)

-- a climb that began with some work and is over in a state
pub record IsOver (whole : Climb) (work : ℕ) (done : List Step) (local : Bool) (m : Machine) : Type 0 where
  pub ready : IsReady m
  pub closed : m.session.before ≡ None
  pub steps : whole.steps ≡ done
  pub local_is : whole.local ≡ local
  pub net : whole.net ≡ m.session.net
  pub looks : length whole.looks ≡ m.counters.looked
  pub work_is : work + work_of whole.looks ≡ m.session.work

-- n turns from a state came to this climb
pub record AreClimb (c : Climb) (n : ℕ) (m : Machine) : Type 0 where
  pub steps : c.steps ≡ steps_in (answers n m)
  pub local : c.local ≡ is_local (answer_of (turns n m))
  pub net : c.net ≡ (turns n m).session.net
  pub looked : m.counters.looked + length c.looks ≡ (turns n m).counters.looked
  pub work : m.session.work + work_of c.looks ≡ (turns n m).session.work

-- a session after a whole climb with this budget
abbrev pub climbed : ℕ → SessionValue → SessionValue
climbed budget s =
    let c = climb s.net 0 budget in record { net = c.net; before = None; work = s.work + work_of c.looks }

-- no listed move is accepted and lowers the index
abbrev pub IsLocal : Network → Type 0
IsLocal net = (place : ℕ) → place < move_count net → lowers net place ≡ false
