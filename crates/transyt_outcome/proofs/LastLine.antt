-- How lines end a run, on plain lists: by one line more, by the end of the source, or by a stop.
use Rattle.std.proofs.Common.{◌≡◌, inl, inr, ℕ, ◌+◌, ◌≤◌, ◌++◌, false, List, [], ◌∷◌, Option, None, Some, length}
use Rattle.std.proofs.Common.{refl, sym, ◌∙◌, ap, subst, arith}
use Rattle.std.proofs.lemmas.List.{append-nil}
use Rattle.transyt_io.specs.Lines.{lines, whole}
use Rattle.transyt_io.specs.Reading.{Reading, HasRead}
use Rattle.transyt_io.specs.Streams.{IsAtEnd}
use Rattle.transyt_io.proofs.Lines.{whole_then}
use Rattle.transyt_io.proofs.Reading.{lines_given, whole_given}
use Rattle.transyt_outcome.specs.declared.ending.Ending.{Ending}
use Rattle.transyt_outcome.specs.Runs.{Answering, RunAnswers, is_refusal, unless_ended, or_else, one_more, of_lines, answers_by}
use Rattle.transyt_outcome.specs.Runs.{report_of, refused_of, steps_whole, steps_all, StepsMost}
use Rattle.transyt_outcome.specs.Outcome.{IsFront, EndsRun, Finished, CutOff, IsPart}
use Rattle.transyt_outcome.proofs.MoreLines.{IsLonger, longer, line_last, line_more, lines_more, front_of_front}

-- the answers to lines with that to one line more
abbrev pub with_last : {State : Type 0} → Answering State → List (List ℕ) → List ℕ → RunAnswers State
with_last by before line = one_more by (answers_by by before) line

-- lines of which none ends the run, and one line more
module _ {State : Type 0} (by : Answering State) (before : List (List ℕ))
    (open_yet : (answers_by by before).ending ≡ None) {reading : Reading} {left : Option (List ℕ)} {taken : List ℕ}
    (line : List ℕ) (stands : HasRead reading left taken (before ++ line ∷ [])) where
  -- the line ended the run
  pub finished_line : {ending : Ending} → (with_last by before line).ending ≡ Some ending → length taken ≤ 4194304
      → Finished (of_lines by) left taken (with_last by before line).text (is_refusal ending)
  finished_line {ending} is few =
      let all = lines_given stands in
      let answers = ap (answers_by by) all.1 ∙ line_last by before all.0 line open_yet is in
      record {
        out_is = sym (ap (report_of by) answers
            ∙ ap (λ (e : Option Ending). (with_last by before line).text ++ unless_ended e [] (by.closing (with_last by before line).state)) is ∙ append-nil (with_last by before line).text);
        status = ap (refused_of by) answers ∙ ap (λ (e : Option Ending). or_else e (by.refused (with_last by before line).state)) is;
        ended = elim (whole_given stands) [
          | inl at_end ↦ inl at_end
          | inr some ↦
              let same = ap (answers_by by) some.1 ∙ line_last by before some.0 line open_yet is in
              inr (subst EndsRun (sym (ap (λ (a : RunAnswers State). a.ending) same ∙ is)) tt)
        ];
        few = few;
      }

  -- its steps are the last
  pub steps_line : {ending : Ending} → (with_last by before line).ending ≡ Some ending → steps_all by taken ≡ (with_last by before line).steps
  steps_line is =
      let all = lines_given stands in
      ap (λ (ls : List (List ℕ)). (answers_by by ls).steps) all.1
      ∙ ap (λ (a : RunAnswers State). a.steps) (line_last by before all.0 line open_yet is)

  -- the answers to all lines are those with that to the line, or more
  longer_all : (all behind : List (List ℕ)) → all ≡ (before ++ line ∷ []) ++ behind → IsLonger by (with_last by before line) (answers_by by all)
  longer_all all behind parts =
      subst (IsLonger by (with_last by before line)) (sym (ap (answers_by by) parts ∙ line_more by before behind line open_yet))
      (longer by (with_last by before line) behind)

  -- the answer to the line is cut off
  pub part_of_line : (front : List ℕ) → IsFront front (with_last by before line).text → IsPart (of_lines by) left taken front
  part_of_line front is = elim (whole_given stands) [
    | inl at_end ↦
        let all = lines_given stands in
        let text = (longer_all (lines taken) all.0 all.1).text in
        inr (at_end, front_of_front _ _ _ is (front_of_front _ _ _ text (record { back = _; parts = refl })))
    | inr some ↦ inl (front_of_front _ _ _ is (longer_all (whole taken) some.0 some.1).text)
  ]

  -- and so are its steps
  pub steps_of_line : (steps steps_new : ℕ) → steps_new ≤ steps + (with_last by before line).steps → StepsMost by left taken steps steps_new
  steps_of_line steps steps_new most = elim (whole_given stands) [
    | inl at_end ↦
        let all = lines_given stands in
        let more = (longer_all (lines taken) all.0 all.1).steps in
        inr (at_end, omega (arith, most, more))
    | inr some ↦ let more = (longer_all (whole taken) some.0 some.1).steps in inl (omega (arith, most, more))
  ]

module _ {State : Type 0} (by : Answering State) (before : List (List ℕ))
    (open_yet : (answers_by by before).ending ≡ None) (left : Option (List ℕ)) (taken : List ℕ) where
  -- the source ended, and its end is answered
  pub finished_end : before ≡ lines taken → IsAtEnd left → length taken ≤ 4194304
      → Finished (of_lines by) left taken ((answers_by by before).text ++ by.closing (answers_by by before).state)
      (by.refused (answers_by by before).state)
  finished_end all at_end few =
      let so_far = answers_by by before in
      let answers = ap (answers_by by) (sym all) in
      record {
        out_is = sym (ap (report_of by) answers
            ∙ ap (λ (e : Option Ending). so_far.text ++ unless_ended e [] (by.closing so_far.state)) open_yet);
        status = ap (refused_of by) answers ∙ ap (λ (e : Option Ending). or_else e (by.refused so_far.state)) open_yet;
        ended = inl at_end;
        few = few;
      }

  -- exactly the whole lines of some bytes are answered
  pub cut_off : before ≡ whole taken → CutOff (of_lines by) taken (answers_by by before).text
  cut_off all = record {
    out_is = ap (λ (ls : List (List ℕ)). (answers_by by ls).text) all;
    open_yet = ap (λ (ls : List (List ℕ)). (answers_by by ls).ending) (sym all) ∙ open_yet;
  }

  -- as many steps as the whole lines of more bytes, or fewer
  pub steps_cut : (behind : List ℕ) → before ≡ whole taken
      → (answers_by by before).steps ≤ steps_whole by (taken ++ behind)
  steps_cut behind all =
      let parts = whole_then false taken behind in
      let steps : List (List ℕ) → ℕ = λ ls. (answers_by by ls).steps in
      let is : steps (whole (taken ++ behind)) ≡ steps (before ++ parts.0) =
      ap steps (parts.1 ∙ ap (λ (ls : List (List ℕ)). ls ++ parts.0) (sym all)) in
      let sum = ap (λ (a : RunAnswers State). a.steps) (lines_more by before parts.0) in
      let more = (longer by (answers_by by before) parts.0).steps in
      omega (arith, is, sum, more)
