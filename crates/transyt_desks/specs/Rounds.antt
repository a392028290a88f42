-- A round: the turns that several desks make together.
use Rattle.std.specs.Prelude.{◌≡◌, ℕ, ◌+◌, ◌-◌, ◌*◌, ◌/◌, ◌%◌, ◌^◌, ◌≤◌, min, max, Bool, true, false, List, length, Option, Some, None}
use Rattle.std.specs.Prelude.{if◌then◌else◌, ◌==◌, ◌&&◌, ◌||◌, nat_lt}
use Rattle.transyt_moves.specs.Moves.{move_count}
use Rattle.transyt_session.specs.Session.{SessionValue}
use Rattle.transyt_sweep.specs.Climb.{least}
use Rattle.transyt_climb.specs.declared.turn.Turn.{Turn}
use Rattle.transyt_climb.specs.declared.turn.Turn.TheVariants.{Took, Passed, Local, Budget}
use Rattle.transyt_climb.specs.Turns.{Counters, Machine, machine, answer_of, turns, is_end}
use Rattle.transyt_climb.specs.Way.{IsRound}
use Rattle.transyt_desks.specs.declared.policy.TheConstants.{LISTS_EARLY, PLACES_ALONE, PLACES_SOON, DESKS_SOON}
use Rattle.transyt_desks.specs.declared.policy.TheConstants.{PLACES_LATE, PLACES_FOR_ONE, MOST_PLACES}
use Rattle.transyt_desks.specs.declared.turns.Round.{Round}
use Rattle.transyt_desks.specs.Desks.{desk_zero, AreAlike}

-- whether a turn takes a step
abbrev pub is_took : Turn → Bool
is_took (Took place edit index) = true
is_took Passed = false
is_took Local = false
is_took Budget = false

-- how many turns there are up to and with the one at a place, or n
abbrev pub up_to : Option ℕ → ℕ → ℕ
up_to None n = n
up_to (Some r) n = r + 1

-- the turns up to and with the first of n that takes a step, or all n
unfoldable pub turns_up_to : ℕ → Machine → ℕ
turns_up_to n m = up_to (least (λ r. is_took (answer_of (turns r m))) n) n

-- how many looks are left to a climber: none past the budget or a whole round of the list
abbrev pub looks_left : Counters → ℕ
looks_left c = min (c.budget - c.looked) (c.count - c.since)

-- how many places are tried at once: one a worker, as far as looks are left
abbrev pub room_of : ℕ → Counters → ℕ
room_of workers c = min workers (looks_left c)

-- how many turns a round of so many workers is: one where the first turn is an end
abbrev pub turns_of : ℕ → Machine → ℕ
turns_of workers m = if is_end (answer_of m) then 1 else turns_up_to (room_of workers m.counters) m

-- how many of so many desks try: up to some places after a step no more than a few, and then all
abbrev pub trying_of : ℕ → Counters → ℕ
trying_of desks c = if nat_lt c.since PLACES_SOON then min desks DESKS_SOON else desks

-- whether a climb is early for so many desks that try: it has looked at fewer places than their part of some lists
abbrev pub is_early : ℕ → Counters → Bool
is_early trying c = nat_lt (c.looked * trying) (LISTS_EARLY * c.count)

-- whether desk 0 of so many goes on alone: where there is no other, and early in a climb up to some places after a step
abbrev pub goes_alone : ℕ → Counters → Bool
goes_alone desks c =
    (desks == 1) || (nat_lt 0 c.looked && is_early (trying_of desks c) c && nat_lt c.since PLACES_ALONE)

-- how many places each of so many desks tries at least: later so many that all desks together try some
abbrev pub least_of : ℕ → Counters → ℕ
least_of desks c = if is_early desks c then 1 else (PLACES_LATE + desks - 1) / desks

-- how many places each of so many desks tries: its part of a fraction of the places since the last step, but not too few
-- or too many
abbrev pub each_of : ℕ → Counters → ℕ
each_of desks c = min MOST_PLACES (max (least_of desks c) (c.since / (PLACES_FOR_ONE * desks)))

-- how many places so many desks try in a round of stretches
abbrev pub places_of : ℕ → Counters → ℕ
places_of desks c = if goes_alone desks c then 1 else trying_of desks c * each_of (trying_of desks c) c

-- a climber and a session on which a round can be made
pub record CanRound (c : Counters) (s : SessionValue) : Type 0 where
  pub count : c.count ≡ move_count s.net
  pub closed : s.before ≡ None
  pub room : s.work ≤ 2 ^ 61

-- the counters after so many looks at moves that don't lower the index
abbrev pub passed_by : ℕ → Counters → Counters
passed_by n c = record {
  place = (c.place + n) % c.count;
  since = c.since + n;
  looked = c.looked + n;
  budget = c.budget;
  count = c.count;
}

-- a round that tries so many places at most: some turns, all but the last of which pass, in little work
pub record MakesRound (places : ℕ) (before after : Machine) (result : Round) : Type 0 where
  pub round : IsRound before after result.turns result.last
  pub turns : result.turns ≡ turns_of places before
  pub kept : after.counters.count ≡ move_count after.session.net
  pub closed : after.session.before ≡ None
  pub few : after.session.work ≤ before.session.work + 8000 * result.turns

-- a round of desks, before and after: as many as before, and of one shape where they were
pub record RoundsDesks (places : ℕ) (before : Counters) (olds : List SessionValue) (after : Counters) (news : List SessionValue)
    (result : Round) : Type 0 where
  pub made : MakesRound places (machine before (desk_zero olds)) (machine after (desk_zero news)) result
  pub alike : AreAlike olds → AreAlike news
  pub workers : length news ≡ length olds
