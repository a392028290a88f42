-- The answer to a whole input, its lines and their texts, and what is reported by it.
use Rattle.std.specs.Prelude.{ℕ, List, [], ◌∷◌, codes, flat_map, ◌++◌, Bool, true, false, Option, None, Some}
use Rattle.transyt_syntax.specs.declared.code.Code.{Code}
use Rattle.transyt_syntax.specs.Codes.{number}
use Rattle.transyt_io.specs.Forms.{form_line}
use Rattle.transyt_net.specs.Parts.{Network}
use Rattle.transyt_deck.specs.Cards.{deck_text}
use Rattle.transyt_outcome.specs.Outcome.{Reporting}

-- a line: its form, with `#` for each number, and the numbers in their order
pub record LineValue : Type 0 where
  pub form : List ℕ
  pub numbers : List ℕ

-- the line of a form with its numbers
abbrev pub line_of : List ℕ → List ℕ → LineValue
line_of form numbers = record { form = form; numbers = numbers }

-- the text of a line
abbrev pub line_text : LineValue → List ℕ
line_text line = form_line line.form line.numbers

-- the text of lines, one after another
abbrev pub lines_text : List LineValue → List ℕ
lines_text lines = flat_map line_text lines

-- a card of the deck is refused: the number of its line, and the code
abbrev pub refused_card : ℕ → Code → LineValue
refused_card card code = line_of (codes "CARD # REFUSED #") (card ∷ number code ∷ [])

-- the lines that are written, the network whose deck text follows them, if any, and whether the input is refused
pub record AnswerValue : Type 0 where
  pub lines : List LineValue
  pub deck : Option Network
  pub refused : Bool

-- the lines of an input that is not refused
abbrev pub done : List LineValue → AnswerValue
done lines = record { lines = lines; deck = None; refused = false }

-- the lines of an input that is refused
abbrev pub refusal : List LineValue → AnswerValue
refusal lines = record { lines = lines; deck = None; refused = true }

-- the lines of an input that is not refused, and a network's deck text after them, if there is one
abbrev pub with_deck : List LineValue → Option Network → AnswerValue
with_deck lines net = record { lines = lines; deck = net; refused = false }

-- the deck text of a network, if there is one
abbrev pub deck_after : Option Network → List ℕ
deck_after None = []
deck_after (Some net) = deck_text net

-- the text of an answer
abbrev pub answer_text : AnswerValue → List ℕ
answer_text answer = lines_text answer.lines ++ deck_after answer.deck

-- the report of an input that is taken whole: before its end nothing is written and nothing ends the run
abbrev pub of_whole : (List ℕ → AnswerValue) → Reporting
of_whole answer = record {
  so_far = λ bytes. [];
  ends = λ bytes. None;
  report = λ input. answer_text (answer input);
  refused = λ input. (answer input).refused;
}
