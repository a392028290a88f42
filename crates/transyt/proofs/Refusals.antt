-- The status of an input is that of its deck.
use Rattle.std.proofs.Common.{◌≡◌, ℕ, Bool, true, false, not, List, [], ◌∷◌, Option, None, Some, is_some, if◌then◌else◌, refl}
use Rattle.std.proofs.Common.{sym, subst, ap, ◌↔◌}
use Rattle.std.specs.List.{fold}
use Rattle.transyt_io.specs.Lines.{lines}
use Rattle.transyt_deck.specs.Deck.{Deck, Refused, Complete, Open, next, start, deck, is_open, is_complete, code_of}
use Rattle.transyt_session.specs.Session.{SessionValue}
use Rattle.transyt_outcome.specs.declared.ending.Ending.{Ending}
use Rattle.transyt_outcome.specs.declared.status.Status.TheVariants.{Done, DeckRefused}
use Rattle.transyt_outcome.specs.declared.ending.Ending.TheVariants.{Stopped, Refused as Refusal}
use Rattle.transyt_outcome.specs.Runs.{RunAnswers, no_answers, answer_next, answers_by, refused_of, or_else}
use Rattle.transyt_line_answers.specs.declared.answer.Answer.{Answer}
use Rattle.transyt_line_answers.specs.declared.answer.Answer.TheVariants as a
use Rattle.transyt_line_answers.specs.Commands.{line_answer, session_after}
use Rattle.transyt_line_answers.specs.Report.{RunState, InDeck, InSession, run_of, deck_ends}
use Rattle.transyt_line_answers.specs.Report.{answer_ends, end_refused, deck_answering, status}
use Rattle.transyt.specs.Reports.{IsRefusedOrOpen, IsRefusedByDeck}

abbrev is_refused : Deck → Bool
is_refused d = is_some (code_of d)

-- the deck of lines by how they ended the run, if they did, and by the state after them
abbrev Follows : Option Ending → RunState → Deck → Type 0
Follows None (InDeck made) d = (made ≡ d) × (is_open d ≡ true)
Follows None (InSession s) d = is_complete d ≡ true
Follows (Some Stopped) state d = is_complete d ≡ true
Follows (Some Refusal) state d = is_refused d ≡ true

-- a deck that is complete or refused stays so
complete_stays : (d : Deck) (line : List ℕ) → is_complete d ≡ true → is_complete (next d line) ≡ true
complete_stays (Complete number net) line h = refl
complete_stays _ line h = absurd (cc)

refused_stays : (d : Deck) (line : List ℕ) → is_refused d ≡ true → is_refused (next d line) ≡ true
refused_stays (Refused number code) line h = refl
refused_stays _ line h = absurd (cc)

-- a line before END, and END
deck_follows : (d : Deck) → Follows (deck_ends d) (run_of d) d
deck_follows (Open count state) = (refl, refl)
deck_follows (Complete number net) = refl
deck_follows (Refused number code) = refl

-- no command refuses the run
answer_follows : (answer : Answer) (s : SessionValue) (d : Deck) → is_complete d ≡ true
    → Follows (answer_ends answer) (InSession s) d
answer_follows a.Stop s d h = h
answer_follows _ s d h = h

-- the deck of the lines of these answers
abbrev AnswersFollow : RunAnswers RunState → Deck → Type 0
AnswersFollow answers d = Follows answers.ending answers.state d

-- one line more
next_follows : (ending : Option Ending) (state : RunState) (text : List ℕ) (steps : ℕ) (d : Deck) (line : List ℕ)
    → Follows ending state d → AnswersFollow
    (answer_next deck_answering (record { text = text; ending = ending; steps = steps; state = state }) line) (next d line)
next_follows None (InDeck made) text steps d line h =
    subst (λ (e : Deck). Follows (deck_ends (next made line)) (run_of (next made line)) (next e line)) h.0
    (deck_follows (next made line))
next_follows None (InSession s) text steps d line h =
    answer_follows (line_answer s line) (session_after s line) (next d line) (complete_stays d line h)
next_follows (Some Stopped) state text steps d line h = complete_stays d line h
next_follows (Some Refusal) state text steps d line h = refused_stays d line h

lines_follow : (ls : List (List ℕ)) (answers : RunAnswers RunState) (d : Deck) → AnswersFollow answers d
    → AnswersFollow (fold (answer_next deck_answering) answers ls) (fold next d ls)
lines_follow [] answers d h = h
lines_follow (line ∷ ls) answers d h =
    lines_follow ls (answer_next deck_answering answers line) (next d line)
    (next_follows answers.ending answers.state answers.text answers.steps d line h)

-- lines refuse the run exactly where they don't complete their deck
refused_follows : (ending : Option Ending) (state : RunState) (d : Deck) → Follows ending state d
    → or_else ending (end_refused state) ≡ not (is_complete d)
refused_follows None (InDeck made) (Open count state) h = refl
refused_follows None (InDeck made) (Complete number net) h = let is = h.1 in absurd (cc)
refused_follows None (InDeck made) (Refused number code) h = refl
refused_follows None (InSession s) d h = sym (ap not h)
refused_follows (Some Stopped) state d h = sym (ap not h)
refused_follows (Some Refusal) state (Refused number code) h = refl
refused_follows (Some Refusal) state _ h = absurd (cc)

-- the status by what the deck is
status_told : (refused : Bool) (d : Deck) → refused ≡ not (is_complete d)
    → ((if refused then DeckRefused else Done) ≡ DeckRefused) ↔ IsRefusedOrOpen d
status_told true (Complete number net) h = absurd (cc)
status_told true _ h = (λ e. tt, λ e. refl)
status_told false (Complete number net) h = (λ e. absurd (cc), λ e. absurd e)
status_told false _ h = absurd (cc)

-- the run of an input is refused exactly where its deck is refused or open
pub refused_by_deck : (input : List ℕ) → IsRefusedByDeck (status input) input
refused_by_deck input =
    let answers = answers_by deck_answering (lines input) in
    status_told (refused_of deck_answering answers) (deck (lines input))
    (refused_follows answers.ending answers.state (deck (lines input)) (lines_follow (lines input) (no_answers deck_answering) start (refl, refl)))
