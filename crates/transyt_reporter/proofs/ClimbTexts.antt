-- The lines of a climb on its way: those of its steps are written as they are taken, and then the last.
use Rattle.std.proofs.Common.{◌≡◌, ℕ, ◌+◌, ◌*◌, ◌≤◌, true, false, List, [], ◌++◌, length, Option, Result, Ok, Err, OnOk}
use Rattle.std.proofs.Common.{sym, ◌∙◌, ap, arith, append_assoc}
use Rattle.std.proofs.lemmas.Grind.{flat_map-append}
use Rattle.std.specs.Result.{IsErr}
use Rattle.transyt_io.proofs.Told.{adds_both}
use Rattle.transyt_sweep.specs.Sweeps.{index}
use Rattle.transyt_sweep.specs.Climb.{Step, climb}
use Rattle.transyt_session.specs.Session.{SessionValue}
use Rattle.transyt_climb.specs.Turns.{Machine, step_then, is_end, is_local}
use Rattle.transyt_climb.specs.Way.{climb_left, climbed}
use Rattle.transyt_climb.proofs.CountedLaws.{IsClimbing, climb_way, climb_goes, climb_over, climb_state}
use Rattle.transyt_desks.specs.declared.turns.Round.{Round}
use Rattle.transyt_desks.specs.Rounds.{MakesRound}
use Rattle.transyt_io.specs.Prints.{Prints, Printed}
use Rattle.transyt_io.proofs.PrintLaws.{prints_both, prints_front, prints_same, adds_same}
use Rattle.transyt_io.proofs.LoopLaws.{printed_nothing, whole}
use Rattle.transyt_report.specs.Texts.{took_text, end_text}
use Rattle.transyt_line_answers.specs.Commands.{steps_text, climb_text}
use Rattle.transyt_reporter.proofs.MoveLaws.{turns_left}

-- a climb whose steps are written as they are taken
pub record ClimbWritten (budget : ℕ) (first : SessionValue) (m : Machine) (written written_new : Option (List ℕ))
    (faults faults_new : ℕ) : Type 0 where
  pub done : List Step
  pub climb : IsClimbing budget first m done
  pub printed : Printed written written_new faults faults_new (steps_text done)

-- no line is written yet
pub writes_nothing : {budget : ℕ} {first : SessionValue} {m : Machine} → IsClimbing budget first m []
    → (written : Option (List ℕ)) (faults : ℕ) → ClimbWritten budget first m written written faults faults
writes_nothing so written faults = record { done = []; climb = so; printed = printed_nothing written faults }

module _ {budget : ℕ} {first : SessionValue} {m : Machine} {w v : Option (List ℕ)} {f g : ℕ}
    (so : ClimbWritten budget first m w v f g) {places : ℕ} {after : Machine} {result : Round}
    (made : MakesRound places m after result) where
  -- the work after a round is at most that of the whole climb
  pub climb_work : after.session.work ≤ (climbed budget first).work
  climb_work = let some = (climb_way so.climb after result.turns result.last made.round).come.work_is in omega (arith, some)

  -- and little
  pub climb_few : after.session.work ≤ first.work + 8000 * budget + 72000
  climb_few =
      let inside = so.climb.way.come.ready.looked in
      let turns = turns_left m places made.turns inside in
      omega (arith, made.few, turns, so.climb.room, inside, so.climb.budget_is)

  -- the session after the last round is that of the climb
  pub climb_ended : {T E : Type 0} (r : Result T E) → is_end result.last ≡ true
      → OnOk r (after.session ≡ climbed budget first)
  climb_ended (Ok v) ends = climb_state so.climb after result.turns result.last made.round ends
  climb_ended (Err e) ends = tt

-- the lines of steps one after another
steps_both : (xs ys : List Step) → steps_text (xs ++ ys) ≡ steps_text xs ++ steps_text ys
steps_both xs ys = flat_map-append (λ (step : Step). took_text step.place step.edit step.index) xs ys

module _ {budget : ℕ} {first : SessionValue} {m : Machine} {w v : Option (List ℕ)} {f g : ℕ}
    (so : ClimbWritten budget first m w v f g) {places : ℕ} {after : Machine} {result : Round}
    (made : MakesRound places m after result) where
  -- the line of a step is written
  pub step_written : {T E : Type 0} (u : T) (x : Option (List ℕ)) (h : ℕ) → is_end result.last ≡ false
      → Prints {T = T} {E = E} v x g h (Ok u) (steps_text (step_then result.last [])) → ClimbWritten budget first after w x f h
  step_written u x h going told = record {
    done = so.done ++ step_then result.last [];
    climb = climb_goes so.climb after result.turns result.last made.round going made.few;
    printed = record {
      adds = adds_same w x _ _ (sym (steps_both so.done (step_then result.last [])))
          (adds_both w v x (steps_text so.done) (steps_text (step_then result.last [])) so.printed.adds told.ok);
      later = omega (arith, so.printed.later, told.cause.later);
    };
  }

  -- the line of a step broke off
  pub step_breaks : {T E : Type 0} (u : T) (e : E) (r : Result T E) (x : Option (List ℕ)) (h : ℕ) → IsErr r
      → Prints {T = T} {E = E} v x g h (Err e) (steps_text (step_then result.last []))
      → Prints w x f h r (climb_text (climb first.net 0 budget))
  step_breaks u e r x h failed told =
      let c = climb first.net 0 budget in
      let done = steps_text so.done in
      let step = steps_text (step_then result.last []) in
      let left = steps_text (climb_left after).steps in
      let end = end_text c.local (length c.looks) (index c.net) in
      let steps : steps_text c.steps ≡ (done ++ step) ++ left =
      ap steps_text (climb_way so.climb after result.turns result.last made.round).come.steps
      ∙ steps_both (so.done ++ step_then result.last []) (climb_left after).steps
      ∙ ap (λ (t : List ℕ). t ++ left) (steps_both so.done (step_then result.last [])) in
      prints_same w x r _ _
      (prints_front r (done ++ step) (left ++ end) failed (prints_both (Err e) done step (whole u done so.printed) told))
      (sym (ap (λ (t : List ℕ). t ++ end) steps ∙ append_assoc (done ++ step) left end))

  -- the last line ends the text, or broke off
  pub end_written : {T E : Type 0} (u : T) (r : Result T E) (x : Option (List ℕ)) (h : ℕ) → is_end result.last ≡ true
      → Prints {T = T} {E = E} v x g h r (end_text (is_local result.last) after.counters.looked (index after.session.net))
      → Prints w x f h r (climb_text (climb first.net 0 budget))
  end_written u r x h ends told =
      let o = climb_over so.climb after result.turns result.last made.round ends in
      let done = steps_text so.done in
      prints_same w x r _ _
      (prints_both r done (end_text (is_local result.last) after.counters.looked (index after.session.net))
      (whole u done so.printed) told)
      (λ i. steps_text (sym o.steps i)
      ++ end_text (sym o.local_is i) (sym o.looks i) (index (sym o.net i)))
