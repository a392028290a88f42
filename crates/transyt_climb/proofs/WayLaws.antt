-- A climb on its way: a turn takes its answer's step and leaves the rest of the climb, and so do the turns of a round.
use Rattle.std.proofs.Common.{◌≡◌, ℕ, zero, suc, ◌+◌, ◌-◌, Bool, true, false, None, List, [], ◌++◌}
use Rattle.std.proofs.Common.{refl, ap, sym, ◌∙◌, subst, arith}
use Rattle.std.proofs.lemmas.List.{append-nil, append_assoc}
use Rattle.transyt_sweep.specs.Climb.{Climb, Step, climb}
use Rattle.transyt_session.specs.Session.{SessionValue}
use Rattle.transyt_climb.specs.declared.turn.Turn.{Turn}
use Rattle.transyt_climb.specs.declared.turn.Turn.TheVariants.{Took, Passed, Local, Budget}
use Rattle.transyt_climb.specs.Turns.{Machine, started, answer_of, after_look, after_answer, turned, turns, answers, step_then}
use Rattle.transyt_climb.specs.Turns.{steps_in, is_end, is_local}
use Rattle.transyt_climb.specs.Way.{IsReady, IsRound, HasCome, IsUnderWay, IsOver, AreClimb, climb_left, climbed}
use Rattle.transyt_climb.proofs.TurnLaws.{over, goes, turn_goes, ready_turned, left_start, start_ready}

-- the last turn of some
pub turns_more : (n : ℕ) (m : Machine) → turns (n + 1) m ≡ turned (turns n m)
turns_more zero m = refl
turns_more (suc n) m =
    let next : suc n + 1 ≡ suc (n + 1) = omega arith in
    ap (λ k. turns k m) next ∙ turns_more n (turned m)

-- an end changes nothing, leaves no climb and takes no step
end_is : (a : Turn) (m : Machine) → is_end a ≡ true
    → (after_answer a m ≡ m) × (goes a m ≡ over (is_local a) m.session.net) × (step_then a [] ≡ [])
end_is (Took place edit index) m end = absurd (cc)
end_is Passed m end = absurd (cc)
end_is Local m end = (refl, refl, refl)
end_is Budget m end = (refl, refl, refl)

-- the step of an answer, and others
step_more : (a : Turn) (steps : List Step) → step_then a [] ++ steps ≡ step_then a steps
step_more (Took place edit index) steps = refl
step_more Passed steps = refl
step_more Local steps = refl
step_more Budget steps = refl

module _ (whole : Climb) (work : ℕ) where
  -- nothing is done more
  come_same : (done : List Step) (m : Machine) (left : Climb) → HasCome whole work done m left
      → HasCome whole work (done ++ []) m left
  come_same done m left so = subst (λ d. HasCome whole work d m left) (sym (append-nil done)) so

  come_on : (done : List Step) (m : Machine) (a : Turn) → HasCome whole work done m (climb_left m)
      → HasCome whole work done m (goes a m) → IsReady (after_answer a m)
      → HasCome whole work (done ++ step_then a []) (after_answer a m) (climb_left (after_answer a m))
  come_on done m (Took place edit index) came so ready = record {
    ready = ready;
    steps = so.steps
        ∙ sym (append_assoc done (step_then (Took place edit index) []) (climb_left (after_look true m)).steps);
    local = so.local;
    net = so.net;
    looks = omega (arith, so.looks);
    work_is = omega (arith, so.work_is);
  }
  come_on done m Passed came so ready = come_same done (after_look false m) (climb_left (after_look false m)) (record {
    ready = ready;
    steps = so.steps;
    local = so.local;
    net = so.net;
    looks = omega (arith, so.looks);
    work_is = omega (arith, so.work_is);
  })
  come_on done m Local came so ready = come_same done m (climb_left m) came
  come_on done m Budget came so ready = come_same done m (climb_left m) came

  -- a turn
  come_turn : (done : List Step) (m : Machine) → HasCome whole work done m (climb_left m)
      → HasCome whole work (done ++ step_then (answer_of m) []) (turned m) (climb_left (turned m))
  come_turn done m so =
      come_on done m (answer_of m) so (subst (HasCome whole work done m) (turn_goes m so.ready) so) (ready_turned m so.ready)

  -- n turns
  come_turns : (n : ℕ) (done : List Step) (m : Machine) → HasCome whole work done m (climb_left m)
      → HasCome whole work (done ++ steps_in (answers n m)) (turns n m) (climb_left (turns n m))
  come_turns zero done m so = come_same done m (climb_left m) so
  come_turns (suc n) done m so =
      let later = steps_in (answers n (turned m)) in
      let steps =
      append_assoc done (step_then (answer_of m) []) later ∙ ap (λ s. done ++ s) (step_more (answer_of m) later) in
      subst (λ d. HasCome whole work d (turns (suc n) m) (climb_left (turns (suc n) m))) steps
      (come_turns n (done ++ step_then (answer_of m) []) (turned m) (come_turn done m so))

  -- no climb is left before an end
  come_end : (done : List Step) (m : Machine) (a : Turn) → HasCome whole work done m (climb_left m) → answer_of m ≡ a
      → is_end a ≡ true → HasCome whole work done m (over (is_local a) m.session.net)
  come_end done m a so is end =
      subst (HasCome whole work done m) (turn_goes m so.ready ∙ ap (λ x. goes x m) is ∙ (end_is a m end).1) so

-- a climb at its start
come_start : (budget : ℕ) (s : SessionValue)
    → HasCome (climb s.net 0 budget) s.work [] (started budget s) (climb_left (started budget s))
come_start budget s =
    subst (HasCome (climb s.net 0 budget) s.work [] (started budget s)) (sym (left_start budget s)) (record {
      ready = start_ready budget s;
      steps = refl;
      local = refl;
      net = refl;
      looks = omega arith;
      work_is = refl;
    })

-- turns from the start up to an end are the climb
pub turns_are_climb : (budget : ℕ) (s : SessionValue) (n : ℕ) → is_end (answer_of (turns n (started budget s))) ≡ true
    → AreClimb (climb s.net 0 budget) n (started budget s)
turns_are_climb budget s n end =
    let whole = climb s.net 0 budget in
    let done = steps_in (answers n (started budget s)) in
    let m = turns n (started budget s) in
    let so = come_end whole s.work done m (answer_of m)
    (come_turns whole s.work n [] (started budget s) (come_start budget s)) refl end in
    record {
      steps = so.steps ∙ append-nil done;
      local = so.local;
      net = so.net;
      looked = omega (arith, so.looks);
      work = omega (arith, so.work_is);
    }

closed_answer : (a : Turn) (m : Machine) → m.session.before ≡ None → (after_answer a m).session.before ≡ None
closed_answer (Took place edit index) m closed = refl
closed_answer Passed m closed = refl
closed_answer Local m closed = closed
closed_answer Budget m closed = closed

-- turns open no trial
closed_turns : (n : ℕ) (m : Machine) → m.session.before ≡ None → (turns n m).session.before ≡ None
closed_turns zero m closed = closed
closed_turns (suc n) m closed = closed_turns n (turned m) (closed_answer (answer_of m) m closed)

-- one turn is a round
pub round_one : (m after : Machine) (a : Turn) → a ≡ answer_of m → after ≡ turned m → IsRound m after 1 a
round_one m after a is next = record {
  some = omega arith;
  after_is = next;
  passed = λ k less. absurd (omega arith);
  last_is = is;
}

-- a round of several turns is a turn that passes, and a round
round_rest : (n : ℕ) (m after : Machine) (last : Turn) → IsRound m after (suc (suc n)) last
    → IsRound (turned m) after (suc n) last
round_rest n m after last round =
    let next : suc (suc n) - 1 ≡ suc (suc n - 1) = omega arith in
    record {
      some = omega arith;
      after_is = round.after_is;
      passed = λ k less. round.passed (suc k) (omega arith);
      last_is = round.last_is ∙ ap (λ k. answer_of (turns k m)) next;
    }

-- its steps are that of its last turn
round_steps : (n : ℕ) (m after : Machine) (last : Turn) → IsRound m after n last
    → steps_in (answers n m) ≡ step_then last []
round_steps zero m after last round = absurd (omega (arith, round.some))
round_steps (suc zero) m after last round = ap (λ a. step_then a []) (sym round.last_is)
round_steps (suc (suc n)) m after last round =
    ap (λ a. step_then a (steps_in (answers (suc n) (turned m)))) (round.passed 0 (omega arith))
    ∙ round_steps (suc n) (turned m) after last (round_rest n m after last round)

-- after a round that ends the climb each turn is this end
round_end : (n : ℕ) (m after : Machine) (last : Turn) → IsRound m after n last → is_end last ≡ true
    → answer_of after ≡ last
round_end n m after last round end =
    let before = turns (n - 1) m in
    let n_is : n ≡ n - 1 + 1 = omega (arith, round.some) in
    let same : turned before ≡ before =
    ap (λ a. after_answer a before) (sym round.last_is) ∙ (end_is last before end).0 in
    ap answer_of (round.after_is ∙ ap (λ k. turns k m) n_is ∙ turns_more (n - 1) m ∙ same) ∙ sym round.last_is

-- a climb at its start is on its way
pub way_start : (budget : ℕ) (s : SessionValue) → s.before ≡ None
    → IsUnderWay (climb s.net 0 budget) s.work [] (started budget s)
way_start budget s closed = record { closed = closed; come = come_start budget s }

-- and stays so by a round, whose step is done
pub way_round : (whole : Climb) (work : ℕ) (done : List Step) (m after : Machine) (count : ℕ) (last : Turn)
    → IsUnderWay whole work done m → IsRound m after count last
    → IsUnderWay whole work (done ++ step_then last []) after
way_round whole work done m after count last way round =
    subst (IsUnderWay whole work (done ++ step_then last [])) (sym round.after_is) (record {
      closed = closed_turns count m way.closed;
      come = subst (λ s. HasCome whole work (done ++ s) (turns count m) (climb_left (turns count m)))
          (round_steps count m after last round) (come_turns whole work count done m way.come);
    })

-- a round that ends the climb
pub way_over : (whole : Climb) (work : ℕ) (done : List Step) (m after : Machine) (count : ℕ) (last : Turn)
    → IsUnderWay whole work done m → IsRound m after count last → is_end last ≡ true
    → IsOver whole work done (is_local last) after
way_over whole work done m after count last way round end =
    let next = way_round whole work done m after count last way round in
    let ends = round_end count m after last round end in
    let so = come_end whole work (done ++ step_then last []) after last next.come ends end in
    record {
      ready = so.ready;
      closed = next.closed;
      steps = so.steps ∙ append-nil (done ++ step_then last []) ∙ ap (λ s. done ++ s) (end_is last m end).2
          ∙ append-nil done;
      local_is = so.local;
      net = so.net;
      looks = omega (arith, so.looks);
      work_is = omega (arith, so.work_is);
    }

-- the looks of turns that are no end, by the counters
pub record HasLooked (m after : Machine) (count : ℕ) : Type 0 where
  pub looked : after.counters.looked ≡ m.counters.looked + count
  pub budget : after.counters.budget ≡ m.counters.budget

looked_one : (m : Machine) (a : Turn) → is_end a ≡ false → HasLooked m (after_answer a m) 1
looked_one m (Took place edit index) going = record { looked = refl; budget = refl }
looked_one m Passed going = record { looked = refl; budget = refl }
looked_one m Local going = absurd (cc)
looked_one m Budget going = absurd (cc)

-- a round that is no end looks once at each turn
pub round_looks : (m after : Machine) (count : ℕ) (last : Turn) → IsRound m after count last → is_end last ≡ false
    → HasLooked m after count
round_looks m after zero last round going = absurd (omega (arith, round.some))
round_looks m after (suc zero) last round going =
    subst (λ t. HasLooked m t 1) (sym round.after_is)
    (looked_one m (answer_of m) (ap is_end (sym round.last_is) ∙ going))
round_looks m after (suc (suc n)) last round going =
    let first : HasLooked m (turned m) 1 = looked_one m (answer_of m) (ap is_end (round.passed 0 (omega arith))) in
    let later : HasLooked (turned m) after (suc n) =
    round_looks (turned m) after (suc n) last (round_rest n m after last round) going in
    record {
      looked = omega (arith, first.looked, later.looked);
      budget = later.budget ∙ first.budget;
    }

-- the session of a climb that is over
pub over_climbed : (budget : ℕ) (s : SessionValue) (done : List Step) (local : Bool) (m : Machine)
    → IsOver (climb s.net 0 budget) s.work done local m → m.session ≡ climbed budget s
over_climbed budget s done local m ended =
    λ i. record { net = sym ended.net i; before = ended.closed i; work = sym ended.work_is i }
