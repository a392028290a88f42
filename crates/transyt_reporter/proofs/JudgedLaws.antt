-- A command that was judged at desk 0, which was lent out for it: what is said of it and what it leaves.
use Rattle.std.proofs.Common.{◌≡◌, ℕ, ◌+◌, ◌≤◌, List, Option, Result, sym, ◌∙◌, ap, subst, set, arith}
use Rattle.std.proofs.lemmas.List.{length-set}
use Rattle.transyt_session.specs.Session.{SessionValue}
use Rattle.transyt_desks.specs.Desks.{desk_zero}
use Rattle.transyt_io.specs.Prints.{Prints}
use Rattle.transyt_io.proofs.PrintLaws.{prints_same}
use Rattle.transyt_line_answers.specs.declared.answer.Answer.{Answer}
use Rattle.transyt_line_answers.specs.Commands.{after_answer, answer_text, line_answer, line_judged, session_after}
use Rattle.transyt_line_answers.specs.Conditions.{IsOf}
use Rattle.transyt_line_answers.specs.Report.{answer_ends}
use Rattle.transyt_line_answers.proofs.JudgedTexts.{line_said}
use Rattle.transyt_outcome.specs.declared.ending.Ending.{Ending}
use Rattle.transyt_reporter.specs.Conditions.{AreReady, LeavesReady}
use Rattle.transyt_reporter.proofs.ReadyLaws.{ready_judged}
use Rattle.transyt_desks.proofs.DeskLaws.{zero_set}

-- desks whose desk 0 was lent out and judged a line to this session and this answer
module _ {desks : List SessionValue} {lent s : SessionValue} {answer : Answer} (line : List ℕ) (ready : AreReady desks)
    (value : lent ≡ desk_zero desks) (state : s ≡ line_judged lent line) (told : answer ≡ line_answer lent line) where
  -- the session after it is that of desk 0 after the line
  judged_is : s ≡ line_judged (desk_zero desks) line
  judged_is = state ∙ ap (λ (s : SessionValue). line_judged s line) value

  -- and so is desk 0
  zero_is : desk_zero (set desks 0 s) ≡ line_judged (desk_zero desks) line
  zero_is = zero_set desks s ready.some ∙ judged_is

  -- the answer to the line
  answer_is : answer ≡ line_answer (desk_zero desks) line
  answer_is = told ∙ ap (λ (s : SessionValue). line_answer s line) value

  -- the desks are ready to say it
  pub ready_said : AreReady (set desks 0 s)
  ready_said = subst (λ (s : SessionValue). AreReady (set desks 0 s)) (sym judged_is) (ready_judged desks line ready)

  -- the text that is said, before which a remark wrote nothing, is that of the line
  pub text_said : {T E : Type 0} {r : Result T E} {w v b : Option (List ℕ)} {f g h : ℕ} → v ≡ w → g ≡ f
      → Prints {T = T} {E = E} v b g h r (answer_text (desk_zero (set desks 0 s)) answer)
      → Prints {T = T} {E = E} w b f h r (answer_text (desk_zero desks) (line_answer (desk_zero desks) line))
  text_said written faults said =
      let same = rw (written, faults) at said in
      prints_same _ _ _ _ _ same ((λ i. answer_text (zero_is i) (answer_is i)) ∙ line_said (desk_zero desks) line)

  -- desk 0 after it was said
  pub state_said : {after : SessionValue} → after ≡ after_answer answer (desk_zero (set desks 0 s))
      → after ≡ session_after (desk_zero desks) line
  state_said is = is ∙ (λ i. after_answer (answer_is i) (zero_is i))

  -- how it ends the run
  pub ends_said : {end : Option Ending} → end ≡ answer_ends answer
      → end ≡ answer_ends (line_answer (desk_zero desks) line)
  ends_said is = is ∙ ap answer_ends answer_is

  -- what is said is of desk 0
  pub of_said : IsOf s answer → IsOf (desk_zero (set desks 0 s)) answer
  of_said of = subst (λ (t : SessionValue). IsOf t answer) (sym (zero_set desks s ready.some)) of

  -- the desks and the steps that saying it leaves are those after the line
  pub leaves_said : (after : List SessionValue) (steps judged steps_new : ℕ) → s.work ≤ lent.work + 8000
      → judged + lent.work ≡ steps + s.work
      → LeavesReady 8000072000 (after_answer answer (desk_zero (set desks 0 s))) (set desks 0 s) after judged steps_new
      → LeavesReady 8589934592 (session_after (desk_zero desks) line) desks after steps steps_new
  leaves_said after steps judged steps_new few work leaves =
      let at = ap (λ (t : SessionValue). t.work) (zero_set desks s ready.some) in
      let same = ap (λ (t : SessionValue). t.work) value in
      let end : (after_answer answer (desk_zero (set desks 0 s))).work ≡ (session_after (desk_zero desks) line).work =
      λ i. (after_answer (answer_is i) (zero_is i)).work in
      let count = length-set desks 0 s in
      record {
        ready = leaves.ready;
        len = leaves.len ∙ count;
        few = omega (arith, at, same, few, leaves.few);
        work = omega (arith, end, leaves.work);
        made = λ one. let go = leaves.made (count ∙ one) in omega (arith, at, same, work, go);
      }
