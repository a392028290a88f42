-- Answers that are no more than their text.
use Rattle.std.proofs.Common.{◌≡◌, ℕ, true, List, refl, ap, arith}
use Rattle.transyt_session.specs.Session.{SessionValue}
use Rattle.transyt_desks.specs.Desks.{desk_zero}
use Rattle.transyt_line_answers.specs.declared.answer.Answer.{Answer}
use Rattle.transyt_line_answers.specs.declared.answer.Answer.TheVariants as a
use Rattle.transyt_line_answers.specs.Commands.{after_answer}
use Rattle.transyt_line_answers.specs.Conditions.{is_told}
use Rattle.transyt_reporter.specs.Conditions.{AreReady, LeavesReady}

-- an answer that is neither CLIMB nor CERT is no more than its text
pub told_by : (answer : Answer) → (answer ≡ a.Climb → ⊥) → (answer ≡ a.Cert → ⊥) → is_told answer ≡ true
told_by a.Climb climb cert = absurd (climb refl)
told_by a.Cert climb cert = absurd (cert refl)
told_by answer climb cert = refl

-- and leaves the session
pub told_same : (answer : Answer) (s : SessionValue) → is_told answer ≡ true → s ≡ after_answer answer s
told_same a.Climb s told = absurd (cc)
told_same a.Cert s told = absurd (cc)
told_same answer s told = refl

-- and the desks
pub told_leaves : (answer : Answer) (desks : List SessionValue) (steps : ℕ) → is_told answer ≡ true → AreReady desks
    → LeavesReady 8000072000 (after_answer answer (desk_zero desks)) desks desks steps steps
told_leaves answer desks steps told ready =
    let same = ap (λ (s : SessionValue). s.work) (told_same answer (desk_zero desks) told) in
    record {
      ready = ready;
      len = refl;
      few = omega arith;
      work = omega (arith, same);
      made = λ one. refl;
    }
