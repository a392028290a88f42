-- A run that takes its input whole: the answer to a deck and what stands after it, and its deck text, read again.
use Rattle.std.specs.Prelude.{ℕ, List, [], ◌∷◌, Result, Ok, Err, ◌≡◌, length, Option, IfSome, ◌≤◌, ◌+◌}
use Rattle.transyt_net.specs.Parts.{Network}
use Rattle.transyt_deck.specs.declared.reader.CardStop.{CardStop}
use Rattle.transyt_deck.specs.declared.cut.Cut.{Cut}
use Rattle.transyt_deck.specs.Deck.{cut_of, deck, Complete}
use Rattle.transyt_words.specs.Answer.{AnswerValue, refusal, refused_card, answer_text}
use Rattle.transyt_words.specs.Case.{CaseValue, case_of}
use Rattle.transyt_io.specs.Lines.{lines}
use Rattle.transyt_deck.specs.Cards.{deck_cards, deck_text}
use Rattle.transyt_io.specs.Streams.{Takes}
use Rattle.transyt_outcome.specs.Outcome.{TextOutcome}
use Rattle.transyt_outcome.specs.declared.status.Status.{Status}
use Rattle.transyt_outcome.specs.declared.status.Status.TheVariants.{ReadFault, TooLong, NoMemory}
use Rattle.transyt_deck.specs.declared.reader.CardStop.TheVariants as stop

-- the answer to an input whose cut this is, by the answer to its case; a refused deck is answered by the line of the
-- refused card (no cut is a want of memory)
abbrev pub answer_of_cut : (CaseValue → AnswerValue) → List ℕ → Result Cut CardStop → AnswerValue
answer_of_cut answer input (Ok cut) = answer (case_of input cut)
answer_of_cut answer input (Err (stop.Refused card code)) = refusal (refused_card card code ∷ [])
answer_of_cut answer input (Err stop.Memory) = refusal []

-- the answer to an input
abbrev pub answer_after : (CaseValue → AnswerValue) → List ℕ → AnswerValue
answer_after answer input = answer_of_cut answer input (cut_of input)

-- the steps of an input whose cut this is: none where the deck is refused
abbrev pub most_of_cut : (CaseValue → ℕ) → List ℕ → Result Cut CardStop → ℕ
most_of_cut most input (Ok cut) = most (case_of input cut)
most_of_cut most input (Err stop) = 0

-- the steps of an input
abbrev pub most_after : (CaseValue → ℕ) → List ℕ → ℕ
most_after most input = most_of_cut most input (cut_of input)

-- the deck text of a network, if there is one, is a deck that gives the very network
abbrev pub DeckReadsBack : Option Network → Type 0
DeckReadsBack made = IfSome made (λ net. deck (lines (deck_text net)) ≡ Complete (length (deck_cards net)) net)

-- so does the deck text of an answer
abbrev pub ReadsBack : AnswerValue → Type 0
ReadsBack answer = DeckReadsBack answer.deck

-- an input with this answer was answered
abbrev pub Told : AnswerValue → Option (List ℕ) → Option (List ℕ) → Status → Type 0
Told answer = TextOutcome (answer_text answer) answer.refused

-- a status with which nothing was written
abbrev pub IsSilent : Status → Type 0
IsSilent ReadFault = Unit {0}
IsSilent TooLong = Unit {0}
IsSilent NoMemory = Unit {0}
IsSilent _ = ⊥

-- the steps are at most those of the bytes taken
pub record StepsWithin (most : List ℕ → ℕ) (left left_new : Option (List ℕ)) (steps steps_new : ℕ) : Type 0 where
  pub taken : List ℕ
  pub takes : Takes left left_new taken
  pub within : steps_new ≤ steps + most taken
