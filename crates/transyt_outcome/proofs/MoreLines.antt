-- The answers to lines and to one line more, and to more lines after them.
use Rattle.std.proofs.Common.{◌≡◌, ℕ, ◌≤◌, ◌++◌, List, [], ◌∷◌, Option, None, Some, refl, sym, ◌∙◌, ap, subst, arith}
use Rattle.std.proofs.Common.{append_assoc}
use Rattle.std.specs.List.{fold}
use Rattle.std.proofs.lemmas.List.{append-nil}
use Rattle.std.proofs.lemmas.List.Sums.{fold-append}
use Rattle.transyt_outcome.specs.declared.ending.Ending.{Ending}
use Rattle.transyt_outcome.specs.Outcome.{EndsRun, IsFront}
use Rattle.transyt_outcome.specs.Runs.{Answering, RunAnswers, unless_ended, one_more, answer_next, no_answers, answers_by}

-- a run that was ended stays
stays : {X : Type 0} (ending : Option Ending) (nothing rest : X) → EndsRun ending
    → unless_ended ending nothing rest ≡ nothing
stays None nothing rest ended = absurd ended
stays (Some ending) nothing rest ended = refl

-- a front of a front
pub front_of_front : (a b c : List ℕ) → IsFront a b → IsFront b c → IsFront a c
front_of_front a b c h k = record {
  back = h.back ++ k.back;
  parts = sym (append_assoc a h.back k.back) ∙ ap (λ (xs : List ℕ). xs ++ k.back) h.parts ∙ k.parts;
}

module _ {State : Type 0} (by : Answering State) where
  -- answers with those to more lines
  abbrev pub with_more : RunAnswers State → List (List ℕ) → RunAnswers State
  with_more before more = fold (answer_next by) before more

  -- more text, and more steps
  pub record IsLonger (before after : RunAnswers State) : Type 0 where
    pub text : IsFront before.text after.text
    pub steps : before.steps ≤ after.steps

  same_long : (before : RunAnswers State) → IsLonger before before
  same_long before = record { text = record { back = []; parts = append-nil before.text }; steps = omega arith }

  one_longer : (before : RunAnswers State) (line : List ℕ) (ending : Option Ending)
      → IsLonger before (unless_ended ending before (one_more by before line))
  one_longer before line (Some ending) = same_long before
  one_longer before line None =
      record { text = record { back = by.text before.state line; parts = refl }; steps = omega arith }

  -- with more lines
  pub longer : (before : RunAnswers State) (more : List (List ℕ)) → IsLonger before (with_more before more)
  longer before [] = same_long before
  longer before (line ∷ more) =
      let one = one_longer before line before.ending in
      let rest = longer (answer_next by before line) more in
      let first = one.steps in
      let then = rest.steps in
      record { text = front_of_front _ _ _ one.text rest.text; steps = omega (arith, first, then) }

  -- after the line that ends the run no line is answered
  pub ended_stays : (before : RunAnswers State) (more : List (List ℕ)) → EndsRun before.ending
      → with_more before more ≡ before
  ended_stays before [] ended = refl
  ended_stays before (line ∷ more) ended =
      ap (λ (a : RunAnswers State). with_more a more) (stays before.ending before (one_more by before line) ended)
      ∙ ended_stays before more ended

  -- lines and more
  pub lines_more : (before more : List (List ℕ)) → answers_by by (before ++ more) ≡ with_more (answers_by by before) more
  lines_more before more = fold-append (answer_next by) (no_answers by) before more

  -- lines that don't end the run, and one line
  pub line_one : (before : List (List ℕ)) (line : List ℕ) → (answers_by by before).ending ≡ None
      → answers_by by (before ++ line ∷ []) ≡ one_more by (answers_by by before) line
  line_one before line open_yet =
      let so_far = answers_by by before in
      lines_more before (line ∷ [])
      ∙ ap (λ (e : Option Ending). unless_ended e so_far (one_more by so_far line)) open_yet

  -- and more
  pub line_more : (before more : List (List ℕ)) (line : List ℕ) → (answers_by by before).ending ≡ None
      → answers_by by ((before ++ line ∷ []) ++ more) ≡ with_more (one_more by (answers_by by before) line) more
  line_more before more line open_yet =
      lines_more (before ++ line ∷ []) more
      ∙ ap (λ (a : RunAnswers State). with_more a more) (line_one before line open_yet)

  -- lines of which the last ends the run, and more
  pub line_last : (before more : List (List ℕ)) (line : List ℕ) {ending : Ending} → (answers_by by before).ending ≡ None
      → by.ends (answers_by by before).state line ≡ Some ending
      → answers_by by ((before ++ line ∷ []) ++ more) ≡ one_more by (answers_by by before) line
  line_last before more line open_yet is =
      line_more before more line open_yet ∙ ended_stays _ more (subst EndsRun (sym is) tt)

  -- the state after lines of which none ends the run is that after each of them in turn
  pub open_state : (before : RunAnswers State) (ls : List (List ℕ)) → (with_more before ls).ending ≡ None
      → (with_more before ls).state ≡ fold by.next before.state ls
  open_state before [] open_yet = refl
  open_state before (line ∷ ls) open_yet =
      let cases : (ending : Option Ending) → before.ending ≡ ending
      → (with_more before (line ∷ ls)).state ≡ fold by.next before.state (line ∷ ls) = elim [
        | None ↦ λ none.
            let one = one_more by before line in
            let is : answer_next by before line ≡ one = ap (λ (e : Option Ending). unless_ended e before one) none in
            ap (λ (a : RunAnswers State). (with_more a ls).state) is
            ∙ open_state one ls (sym (ap (λ (a : RunAnswers State). (with_more a ls).ending) is) ∙ open_yet)
        | Some ending ↦ λ some.
            let stays = ended_stays before (line ∷ ls) (subst EndsRun (sym some) tt) in
            let both = sym some ∙ sym (ap (λ (a : RunAnswers State). a.ending) stays) ∙ open_yet in absurd (cc)
      ] in
      cases before.ending refl
