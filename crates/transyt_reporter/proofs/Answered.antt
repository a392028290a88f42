-- A line that was answered, by the state before it: the text, the end of the run, the state after it, and the steps.
use Rattle.std.proofs.Common.{◌≡◌, ℕ, ◌+◌, ◌++◌, List, [], ◌∷◌, Option, None, Some, Result, Ok, Err, IfOk, OnOk, refl, sym, ◌∙◌, ap, subst, arith}
use Rattle.std.specs.List.{fold}
use Rattle.std.proofs.lemmas.List.{append-nil}
use Rattle.transyt_io.specs.Streams.{Adds}
use Rattle.transyt_deck.specs.Deck.{Deck, Open, Complete, Refused, next}
use Rattle.transyt_session.specs.Session.{SessionValue}
use Rattle.transyt_desks.specs.Desks.{desk_zero}
use Rattle.transyt_outcome.specs.declared.ending.Ending.{Ending}
use Rattle.transyt_outcome.specs.declared.ending.Stop.{Stop}
use Rattle.transyt_outcome.specs.Runs.{RunAnswers, LineAnswered, unless_ended, one_more, answer_next, no_answers, answers_by}
use Rattle.transyt_line_answers.specs.Commands.{session_after}
use Rattle.transyt_line_answers.specs.Report.{RunState, InDeck, InSession, run_of, run_after, line_text, line_ends, line_steps}
use Rattle.transyt_line_answers.specs.Report.{deck_answering, deck_said, deck_ends}
use Rattle.transyt_line_answers.proofs.WorkLaws.{line_more}
use Rattle.transyt_reporter.specs.Reporter.{ReporterValue, state_of}

-- after END the state is the session of desk 0
pub session_is : (r : ReporterValue) (desks : List SessionValue) → r.desks ≡ Some desks
    → state_of r ≡ InSession (desk_zero desks)
session_is r desks is = ap (λ (o : Option (List SessionValue)). state_of (record r { desks = o })) is

-- before END it is the deck of the reader
pub deck_is : (r : ReporterValue) → r.desks ≡ None → state_of r ≡ InDeck r.cards.deck
deck_is r is = ap (λ (o : Option (List SessionValue)). state_of (record r { desks = o })) is

-- the text, the end and the state of a line are its answer
pub line_told : (result : Result (Option Ending) Stop) (state state_new : RunState) (line : List ℕ)
    (old new : Option (List ℕ)) → OnOk result (Adds old new (line_text state line))
    → IfOk result (λ (end : Option Ending). end ≡ line_ends state line)
    → (result ≡ Ok None → state_new ≡ run_after state line)
    → IfOk result (LineAnswered deck_answering state state_new old new line)
line_told (Ok end) state state_new line old new adds is goes_on = record { adds = adds; ending_is = is; goes_on = λ none. goes_on (ap Ok none) }
line_told (Err stop) state state_new line old new adds is goes_on = tt

-- the steps of a command
pub command_cost : (result : Result (Option Ending) Stop) (s after : SessionValue) (line : List ℕ) (steps steps_new : ℕ)
    → OnOk result (after ≡ session_after s line) → steps_new + s.work ≡ steps + after.work
    → OnOk result (steps_new ≡ steps + line_steps (InSession s) line)
command_cost (Ok end) s after line steps steps_new state spent =
    let work : after.work ≡ (session_after s line).work = ap (λ (t : SessionValue). t.work) state in
    omega (arith, spent, work, line_more s line)
command_cost (Err stop) s after line steps steps_new state spent = tt

-- a deck that didn't end the run
abbrev IsQuiet : RunState → List ℕ → Type 0
IsQuiet (InDeck deck) text = text ≡ []
IsQuiet (InSession s) text = Unit {0}

quiet_deck : (deck : Deck) (text : List ℕ) → text ≡ [] → deck_ends deck ≡ None
    → IsQuiet (run_of deck) (text ++ deck_said deck)
quiet_deck (Open count state) text quiet goes = append-nil text ∙ quiet
quiet_deck (Complete number net) text quiet goes = tt
quiet_deck (Refused number code) text quiet goes = absurd (cc)

quiet_line : (state : RunState) (text line : List ℕ) → IsQuiet state text → line_ends state line ≡ None
    → IsQuiet (run_after state line) (text ++ line_text state line)
quiet_line (InDeck deck) text line quiet goes = quiet_deck (next deck line) text quiet goes
quiet_line (InSession s) text line quiet goes = tt

-- lines of which none ends the run write nothing before END
abbrev AreQuiet : RunAnswers RunState → Type 0
AreQuiet answers = answers.ending ≡ None → IsQuiet answers.state answers.text

quiet_next : (answers : RunAnswers RunState) (line : List ℕ) → AreQuiet answers
    → AreQuiet (answer_next deck_answering answers line)
quiet_next answers line quiet =
    let both : (ending : Option Ending) → answers.ending ≡ ending
    → AreQuiet (unless_ended ending answers (one_more deck_answering answers line)) = elim [
      | None ↦ λ none goes. quiet_line answers.state answers.text line (quiet none) goes
      | Some ending ↦ λ some. quiet
    ] in
    both answers.ending refl

quiet_more : (ls : List (List ℕ)) (answers : RunAnswers RunState) → AreQuiet answers
    → AreQuiet (fold (answer_next deck_answering) answers ls)
quiet_more [] answers quiet = quiet
quiet_more (line ∷ ls) answers quiet = quiet_more ls (answer_next deck_answering answers line) (quiet_next answers line quiet)

-- before END the lines have written nothing
pub deck_quiet : (before : List (List ℕ)) (deck : Deck) → (answers_by deck_answering before).ending ≡ None
    → InDeck deck ≡ (answers_by deck_answering before).state → (answers_by deck_answering before).text ≡ []
deck_quiet before deck open_yet is =
    let quiet = quiet_more before (no_answers deck_answering) (λ none. refl) open_yet in
    subst (λ (s : RunState). IsQuiet s (answers_by deck_answering before).text) (sym is) quiet
