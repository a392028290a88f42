-- The steps of lines are those of the whole evaluation at END and the work since, which WORK prints.
use Rattle.std.proofs.Common.{◌≡◌, ℕ, ◌+◌, ◌-◌, ◌*◌, ◌%◌, ◌≤◌, List, [], ◌∷◌, length}
use Rattle.std.proofs.Common.{Option, Some, None, IfSome, refl, sym, ◌∙◌, ap, arith}
use Rattle.std.proofs.lemmas.List.{length-map}
use Rattle.std.specs.List.{fold}
use Rattle.transyt_parts.specs.Made.{bare_link}
use Rattle.transyt_net.specs.Parts.{Network, shape, SameShape}
use Rattle.transyt_deck.specs.Deck.{Deck, Complete, next}
use Rattle.transyt_commands.specs.Commands.{command_in}
use Rattle.transyt_moves.specs.Moves.{move_count}
use Rattle.transyt_sweep.specs.Climb.{climb}
use Rattle.transyt_session.specs.Session.{SessionValue}
use Rattle.transyt_climb.proofs.CountLaws.{shape_moved}
use Rattle.transyt_outcome.specs.declared.ending.Ending.{Ending}
use Rattle.transyt_outcome.specs.Runs.{RunAnswers, no_answers, one_more, answer_next, unless_ended, answers_by}
use Rattle.transyt_outcome.proofs.MoreLines.{open_state}
use Rattle.transyt_line_answers.specs.declared.answer.Answer.{Answer}
use Rattle.transyt_line_answers.specs.declared.answer.Answer.TheVariants as a
use Rattle.transyt_line_answers.specs.Commands.{after_answer, budget_of, line_answer, line_judged, session_after}
use Rattle.transyt_line_answers.specs.Report.{RunState, InDeck, InSession, run_of, run_after, run_state, line_steps}
use Rattle.transyt_line_answers.specs.Report.{deck_steps, deck_answering, steps_in}
use Rattle.transyt_line_answers.proofs.ClimbLaws.{of_climb}
use Rattle.transyt_line_answers.proofs.ShapeLaws.{KeepsShape, keeps_said}
use Rattle.transyt_line_answers.proofs.WorkLaws.{line_more}

-- S times the links
abbrev whole_of : Network → ℕ
whole_of net = net.frame.sweeps * length net.links

whole_shape : (net : Network) → whole_of (shape net) ≡ whole_of net
whole_shape net = ap (λ (n : ℕ). net.frame.sweeps * n) (length-map net.links bare_link)

-- a matter of shape
whole_same : (a b : Network) → SameShape a b → whole_of a ≡ whole_of b
whole_same a b same = sym (whole_shape a) ∙ ap whole_of same ∙ whole_shape b

-- a climb keeps the shape
climb_shape : (net : Network) (k left : ℕ) → SameShape net (climb net k left).net
climb_shape =
    of_climb (λ net k left c. SameShape net c.net) (λ net k left. refl) (λ net k left. refl)
    (λ net k left r rest is less same. sym (shape_moved net ((k + r) % move_count net)) ∙ same)

-- an answer that is carried out keeps it
carried_keeps : (answer : Answer) (s : SessionValue) → IfSome s.before (λ n. SameShape s.net n)
    → KeepsShape s (after_answer answer s)
carried_keeps a.Climb s h = record { net = climb_shape s.net 0 (budget_of s.net.plan); before = tt }
carried_keeps _ s h = record { net = refl; before = h }

-- and so does a line
line_keeps : (s : SessionValue) (line : List ℕ) → IfSome s.before (λ n. SameShape s.net n)
    → KeepsShape s (session_after s line)
line_keeps s line h =
    let judge = keeps_said (command_in line) s h in
    let carry = carried_keeps (line_answer s line) (line_judged s line) judge.before in
    record { net = judge.net ∙ carry.net; before = carry.before }

-- the network before an open trial has the shape of the network now
abbrev IsKept : RunState → Type 0
IsKept (InDeck deck) = Unit {0}
IsKept (InSession s) = IfSome s.before (λ n. SameShape s.net n)

kept_deck : (deck : Deck) → IsKept (run_of deck)
kept_deck (Complete number net) = tt
kept_deck _ = tt

kept_on : (state : RunState) (line : List ℕ) → IsKept state → IsKept (run_after state line)
kept_on (InDeck deck) line h = kept_deck (next deck line)
kept_on (InSession s) line h = (line_keeps s line h).before

-- the steps of END
steps_deck : (deck : Deck) → deck_steps deck ≡ steps_in (run_of deck)
steps_deck (Complete number net) = omega arith
steps_deck _ = refl

-- the work that a line adds
added : (whole after work work_after : ℕ) → whole ≡ after → work ≤ work_after
    → (whole + work) + (work_after - work) ≡ after + work_after
added whole after work work_after same more = omega arith

-- the steps with those of a line
steps_on : (state : RunState) (line : List ℕ) → IsKept state
    → steps_in state + line_steps state line ≡ steps_in (run_after state line)
steps_on (InDeck deck) line h = let made = steps_deck (next deck line) in omega (arith, made)
steps_on (InSession s) line h =
    added (whole_of s.net) (whole_of (session_after s line).net) s.work (session_after s line).work
    (whole_same s.net (session_after s line).net (line_keeps s line h).net) (line_more s line)

-- the steps of answers are those of their state
record AreWork (answers : RunAnswers RunState) : Type 0 where
  kept : IsKept answers.state
  steps : answers.steps ≡ steps_in answers.state

-- also with the answer to one line more
next_work : (answers : RunAnswers RunState) (line : List ℕ) → AreWork answers
    → AreWork (answer_next deck_answering answers line)
next_work answers line h =
    let on = steps_on answers.state line h.kept in
    let so_far = h.steps in
    let both : (ending : Option Ending) → AreWork (unless_ended ending answers (one_more deck_answering answers line)) =
    elim [
      | None ↦ record { kept = kept_on answers.state line h.kept; steps = omega (arith, on, so_far) }
      | Some ending ↦ h
    ] in
    both answers.ending

more_work : (ls : List (List ℕ)) (answers : RunAnswers RunState) → AreWork answers
    → AreWork (fold (answer_next deck_answering) answers ls)
more_work [] answers h = h
more_work (line ∷ ls) answers h = more_work ls (answer_next deck_answering answers line) (next_work answers line h)

-- the steps of lines that don't end the run
pub steps_are : (ls : List (List ℕ)) → (answers_by deck_answering ls).ending ≡ None
    → (answers_by deck_answering ls).steps ≡ steps_in (run_state ls)
steps_are ls none =
    (more_work ls (no_answers deck_answering) (record { kept = tt; steps = refl })).steps
    ∙ ap steps_in (open_state deck_answering (no_answers deck_answering) ls none)
