-- A climb on its way by rounds: each look has done little work, and its steps may be counted.
use Rattle.std.proofs.Common.{◌≡◌, ℕ, ◌+◌, ◌-◌, ◌*◌, ◌≤◌, ◌<◌, Bool, true, false, List, [], ◌++◌, length, None}
use Rattle.std.proofs.Common.{refl, sym, ◌∙◌, ap, subst, arith, length-append}
use Rattle.transyt_moves.specs.Moves.{move_count}
use Rattle.transyt_sweep.specs.Climb.{Climb, Step, climb}
use Rattle.transyt_session.specs.Session.{SessionValue}
use Rattle.transyt_climb.specs.declared.turn.Turn.{Turn}
use Rattle.transyt_climb.specs.Turns.{Counters, Machine, machine, start_at, step_then, is_end, is_local}
use Rattle.transyt_climb.specs.Way.{IsUnderWay, IsOver, IsRound, climbed}
use Rattle.transyt_climb.proofs.WayLaws.{way_start, way_round, way_over, round_looks, over_climbed, HasLooked}

-- the climb of a session with this budget has come to a state and done these steps, and each look has done little work
pub record IsClimbing (budget : ℕ) (first : SessionValue) (m : Machine) (done : List Step) : Type 0 where
  pub way : IsUnderWay (climb first.net 0 budget) first.work done m
  pub budget_is : m.counters.budget ≡ budget
  pub room : m.session.work ≤ first.work + 8000 * m.counters.looked

-- it has done so many steps
pub record IsCounted (budget : ℕ) (first : SessionValue) (m : Machine) (took : ℕ) : Type 0 where
  pub done : List Step
  pub climbing : IsClimbing budget first m done
  pub took_is : took ≡ length done
  pub few : took ≤ m.counters.looked

-- it has ended so
pub record HasEnded (whole : Climb) (budget : ℕ) (first : SessionValue) (m : Machine) (took : ℕ) (local : Bool) : Type 0
  where
    pub took_is : took ≡ length whole.steps
    pub local_is : local ≡ whole.local
    pub state : m.session ≡ climbed budget first
    pub looks : m.counters.looked ≡ length whole.looks

-- no step is done at the start
pub climb_starts : (budget : ℕ) (s : SessionValue) (counters : Counters)
    → counters ≡ start_at budget (move_count s.net) → s.before ≡ None → IsClimbing budget s (machine counters s) []
climb_starts budget s counters start closed =
    subst (λ (k : Counters). IsClimbing budget s (machine k s) []) (sym start)
    (record { way = way_start budget s closed; budget_is = refl; room = omega arith })

pub counted_start : (budget : ℕ) (s : SessionValue) (counters : Counters)
    → counters ≡ start_at budget (move_count s.net) → s.before ≡ None → IsCounted budget s (machine counters s) 0
counted_start budget s counters start closed = record {
  done = [];
  climbing = climb_starts budget s counters start closed;
  took_is = refl;
  few = omega arith;
}

module _ {budget : ℕ} {first : SessionValue} {m : Machine} {done : List Step} (so : IsClimbing budget first m done)
    (after : Machine) (count : ℕ) (last : Turn) (round : IsRound m after count last) where
  -- a round does the step of its last turn
  pub climb_way : IsUnderWay (climb first.net 0 budget) first.work (done ++ step_then last []) after
  climb_way = way_round (climb first.net 0 budget) first.work done m after count last so.way round

  -- a round that doesn't end the climb looks once at each turn
  pub climb_looks : is_end last ≡ false → HasLooked m after count
  climb_looks going = round_looks m after count last round going

  pub climb_goes : is_end last ≡ false → after.session.work ≤ m.session.work + 8000 * count
      → IsClimbing budget first after (done ++ step_then last [])
  climb_goes going little =
      let looks = climb_looks going in
      let looked : after.counters.looked ≡ m.counters.looked + count = looks.looked in
      record {
        way = climb_way;
        budget_is = looks.budget ∙ so.budget_is;
        room = omega (arith, so.room, looked, little);
      }

  -- fewer places may still be looked at
  pub fewer_left : is_end last ≡ false
      → after.counters.budget - after.counters.looked < m.counters.budget - m.counters.looked
  fewer_left going =
      let looks = climb_looks going in
      let looked : after.counters.looked ≡ m.counters.looked + count = looks.looked in
      let same : after.counters.budget ≡ m.counters.budget = looks.budget in
      omega (arith, looked, same, climb_way.come.ready.looked, round.some)

  -- a round that ends the climb
  pub climb_over : is_end last ≡ true → IsOver (climb first.net 0 budget) first.work done (is_local last) after
  climb_over ends = way_over (climb first.net 0 budget) first.work done m after count last so.way round ends

  -- the session at its end
  pub climb_state : is_end last ≡ true → after.session ≡ climbed budget first
  climb_state ends = over_climbed budget first done (is_local last) after (climb_over ends)

module _ {budget : ℕ} {first : SessionValue} {m : Machine} {took : ℕ} (so : IsCounted budget first m took)
    (after : Machine) (count : ℕ) (last : Turn) (round : IsRound m after count last) where
  -- the step of a round is counted
  pub counted_on : is_end last ≡ false → after.session.work ≤ m.session.work + 8000 * count → (more : ℕ)
      → more ≡ length (step_then last []) → more ≤ 1 → IsCounted budget first after (took + more)
  counted_on going little more more_is few =
      let looked : after.counters.looked ≡ m.counters.looked + count =
      (climb_looks so.climbing after count last round going).looked in
      record {
        done = so.done ++ step_then last [];
        climbing = climb_goes so.climbing after count last round going little;
        took_is = let long = length-append so.done (step_then last []) in omega (arith, long, so.took_is, more_is);
        few = omega (arith, so.few, looked, few, round.some);
      }

  -- the end of a climb: the session, and the numbers of steps and looks
  pub counted_over : is_end last ≡ true → HasEnded (climb first.net 0 budget) budget first after took (is_local last)
  counted_over ends =
      let over = climb_over so.climbing after count last round ends in
      record {
        took_is = so.took_is ∙ ap (λ (steps : List Step). length steps) (sym over.steps);
        local_is = sym over.local_is;
        state = climb_state so.climbing after count last round ends;
        looks = sym over.looks;
      }
