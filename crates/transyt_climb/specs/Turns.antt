-- A climber at its turns, over a session.
use Rattle.std.specs.Prelude.{ℕ, zero, suc, ◌+◌, ◌%◌, ◌<◌, ◌≤◌, Bool, true, false, List, [], ◌∷◌}
use Rattle.std.specs.Prelude.{Option, option_map, if◌then◌else◌, ◌==◌}
use Rattle.transyt_parts.specs.Parts.{PlanValue}
use Rattle.transyt_net.specs.Parts.{Network}
use Rattle.transyt_moves.specs.Moves.{move, move_count}
use Rattle.transyt_sweep.specs.Sweeps.{index}
use Rattle.transyt_sweep.specs.Climb.{lowers, moved, Step}
use Rattle.transyt_session.specs.Session.{SessionValue, credited, lowered, lower_index}
use Rattle.transyt_track.specs.Due.{edit_work}
use Rattle.transyt_climb.specs.declared.turn.Turn.{Turn}
use Rattle.transyt_climb.specs.declared.turn.Turn.TheVariants.{Took, Passed, Local, Budget}

-- a climber: its next place, the places looked at since its last step and in all, those it may look at, and all places
pub record Counters : Type 0 where
  pub place : ℕ
  pub since : ℕ
  pub looked : ℕ
  pub budget : ℕ
  pub count : ℕ

-- the counters are in their bounds
pub record AreCounters (c : Counters) : Type 0 where
  pub since : c.since ≤ c.count
  pub looked : c.looked ≤ c.budget
  pub place : 0 < c.count → c.place < c.count

-- a climber and the session that it climbs on
pub record Machine : Type 0 where
  pub counters : Counters
  pub session : SessionValue

-- the two together
abbrev pub machine : Counters → SessionValue → Machine
machine counters session = record { counters = counters; session = session }

-- counters at their start
abbrev pub start_at : ℕ → ℕ → Counters
start_at budget count = record { place = 0; since = 0; looked = 0; budget = budget; count = count }

-- counters at the start of a climb of a network, where it has a climb plan
abbrev pub start_of : Network → Option PlanValue → Option Counters
start_of net plan = option_map (λ (p : PlanValue). start_at p.budget (move_count net)) plan

-- a climber at its start, on a session
abbrev pub started : ℕ → SessionValue → Machine
started budget s = machine (start_at budget (move_count s.net)) s

-- the counters after one look: after a step the same place is next, else the next one round the list
abbrev pub noted : Bool → Counters → Counters
noted took c = record c {
  place = if took then c.place else (c.place + 1) % c.count;
  since = if took then 0 else c.since + 1;
  looked = c.looked + 1;
}

-- the session after a look at a place: after a look at the move there
abbrev pub looked_at : ℕ → SessionValue → SessionValue
looked_at place s = lowered (move s.net place) s

-- the index that a look at a place finds, where the move there lowers it
abbrev pub found_at : Network → ℕ → Option ℕ
found_at net place = lower_index net (move net place)

-- the answer of a look at a place
abbrev pub look_answer : Network → ℕ → Turn
look_answer net place = if lowers net place then Took place (move net place) (index (moved net place)) else Passed

-- the answer of a turn: an end, or that of the look at the next place
abbrev pub answer_of : Machine → Turn
answer_of m =
    if m.counters.since == m.counters.count then Local
    else if m.counters.looked == m.counters.budget then Budget
    else look_answer m.session.net m.counters.place

-- the state after a look
abbrev pub after_look : Bool → Machine → Machine
after_look took m = machine (noted took m.counters) (looked_at m.counters.place m.session)

-- the state after a turn that answers this: an end changes nothing
abbrev pub after_answer : Turn → Machine → Machine
after_answer (Took place edit index) m = after_look true m
after_answer Passed m = after_look false m
after_answer _ m = m

-- the state after a turn
abbrev pub turned : Machine → Machine
turned m = after_answer (answer_of m) m

-- the state after n turns
abbrev pub turns : ℕ → Machine → Machine
turns zero m = m
turns (suc n) m = turns n (turned m)

-- the answers of the first n turns, in order
abbrev pub answers : ℕ → Machine → List Turn
answers zero m = []
answers (suc n) m = answer_of m ∷ answers n (turned m)

-- the step of an answer before others
abbrev pub step_then : Turn → List Step → List Step
step_then (Took place edit index) steps = record { place = place; edit = edit; index = index } ∷ steps
step_then _ steps = steps

-- the steps among answers, in order
abbrev pub steps_in : List Turn → List Step
steps_in [] = []
steps_in (a ∷ rest) = step_then a (steps_in rest)

-- whether an answer ends the climb
abbrev pub is_end : Turn → Bool
is_end Local = true
is_end Budget = true
is_end _ = false

-- whether an answer is that no move lowers
abbrev pub is_local : Turn → Bool
is_local Local = true
is_local _ = false

-- the session after a place is certified: the work of an allowed move is added, and nothing else changes
abbrev pub certified : ℕ → SessionValue → SessionValue
certified place s = credited (edit_work s.net (move s.net place)) s
