-- The report of an input: a deck, and then the commands over its network.
use Rattle.std.specs.Prelude.{ℕ, ◌+◌, ◌-◌, ◌*◌, Bool, true, false, List, [], ◌∷◌, length, codes, Option, Some, None}
use Rattle.std.specs.List.{fold}
use Rattle.transyt_syntax.specs.declared.code.Code.{Code}
use Rattle.transyt_syntax.specs.declared.code.Code.TheVariants as code
use Rattle.transyt_syntax.specs.Codes.{number}
use Rattle.transyt_net.specs.Parts.{Network}
use Rattle.transyt_deck.specs.Deck.{Deck, Refused, Complete, Open, next, start}
use Rattle.transyt_session.specs.Session.{SessionValue, opened}
use Rattle.transyt_io.specs.Forms.{form_line}
use Rattle.transyt_outcome.specs.declared.ending.Ending.{Ending}
use Rattle.transyt_outcome.specs.declared.ending.Ending.TheVariants as ending
use Rattle.transyt_outcome.specs.Runs.{Answering, of_lines}
use Rattle.transyt_outcome.specs.Outcome.{Reporting, status_by}
use Rattle.transyt_outcome.specs.declared.status.Status.{Status}
use Rattle.transyt_line_answers.specs.declared.answer.Answer.{Answer}
use Rattle.transyt_line_answers.specs.declared.answer.Answer.TheVariants as a
use Rattle.transyt_line_answers.specs.Commands.{line_answer, answer_text, session_after}

-- the state after the lines of an input: the deck so far, or after END the session
pub data RunState : Type 0 where
  InDeck : Deck → RunState
  InSession : SessionValue → RunState

-- the line of a refused card
unfoldable pub card_refused : ℕ → Code → List ℕ
card_refused card code = form_line (codes "CARD # REFUSED #") (card ∷ number code ∷ [])

-- the line of an accepted END, with the numbers of nodes and links
unfoldable pub accepted : Network → List ℕ
accepted net = form_line (codes "ACCEPTED # #") (length net.nodes ∷ length net.links ∷ [])

-- the text of a line before END or of END, by the deck with it
abbrev pub deck_said : Deck → List ℕ
deck_said (Open count state) = []
deck_said (Complete number net) = accepted net
deck_said (Refused number code) = card_refused number code

-- a refused card ends the run, as a refusal
abbrev pub deck_ends : Deck → Option Ending
deck_ends (Refused number code) = Some ending.Refused
deck_ends _ = None

-- an accepted STOP ends the run
abbrev pub answer_ends : Answer → Option Ending
answer_ends a.Stop = Some ending.Stopped
answer_ends answer = None

-- the steps of a line before END or of END, by the deck with it: an accepted END works out each sweep of each link
abbrev pub deck_steps : Deck → ℕ
deck_steps (Complete number net) = net.frame.sweeps * length net.links
deck_steps _ = 0

-- the state after lines whose deck is this: the accepted END opens a session of its network
abbrev pub run_of : Deck → RunState
run_of (Complete number net) = InSession (opened net)
run_of deck = InDeck deck

-- the state after one line more
abbrev pub run_after : RunState → List ℕ → RunState
run_after (InDeck deck) line = run_of (next deck line)
run_after (InSession s) line = InSession (session_after s line)

-- the state after lines, one after another
abbrev pub run_state : List (List ℕ) → RunState
run_state before = fold run_after (InDeck start) before

-- the text of a line over the state after the lines before it
abbrev pub line_text : RunState → List ℕ → List ℕ
line_text (InDeck deck) line = deck_said (next deck line)
line_text (InSession s) line = answer_text s (line_answer s line)

-- how the line ends the run, if it does
abbrev pub line_ends : RunState → List ℕ → Option Ending
line_ends (InDeck deck) line = deck_ends (next deck line)
line_ends (InSession s) line = answer_ends (line_answer s line)

-- the steps of the line: its work, and at END those of the whole evaluation
abbrev pub line_steps : RunState → List ℕ → ℕ
line_steps (InDeck deck) line = deck_steps (next deck line)
line_steps (InSession s) line = (session_after s line).work - s.work

-- the steps of lines by the state after them: S times the links at END, and the work since
abbrev pub steps_in : RunState → ℕ
steps_in (InDeck deck) = 0
steps_in (InSession s) = s.net.frame.sweeps * length s.net.links + s.work

-- the text at the end of the input: a deck whose END didn't come is refused
abbrev pub text_at_end : RunState → List ℕ
text_at_end (InDeck (Open count state)) = card_refused (count + 1) code.NoEnd
text_at_end _ = []

-- whether the end of the input is a refusal: no END was accepted
abbrev pub end_refused : RunState → Bool
end_refused (InDeck deck) = true
end_refused (InSession s) = false

-- how the lines of a deck and of its commands are answered
abbrev pub deck_answering : Answering RunState
deck_answering = record {
  start = InDeck start;
  text = line_text;
  ends = line_ends;
  cost = line_steps;
  next = run_after;
  closing = text_at_end;
  refused = end_refused;
}

-- the report of an input: the answers to its lines and, where it ends before END, the refusal of its deck
abbrev pub reporting_run : Reporting
reporting_run = of_lines deck_answering

-- the report of an input
abbrev pub report : List ℕ → List ℕ
report input = reporting_run.report input

-- the status of the run of an input
abbrev pub status : List ℕ → Status
status input = status_by reporting_run input
