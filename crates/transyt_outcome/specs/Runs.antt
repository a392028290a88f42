-- The answers to lines, and a run over the lines of an input, whatever it is that answers them: its report, and its steps.
use Rattle.std.specs.Prelude.{◌≡◌, ℕ, ◌+◌, ◌++◌, List, [], Bool, true, false, Option, None, Some, ◌⊎◌, ◌≤◌}
use Rattle.std.specs.List.{fold}
use Rattle.transyt_outcome.specs.declared.ending.Ending.{Ending}
use Rattle.transyt_outcome.specs.declared.ending.Ending.TheVariants.{Stopped, Refused}
use Rattle.transyt_io.specs.Streams.{Adds, Takes, IsAtEnd}
use Rattle.transyt_io.specs.Lines.{lines, whole}
use Rattle.transyt_outcome.specs.declared.status.Status.{Status}
use Rattle.transyt_outcome.specs.declared.status.Status.TheVariants.{Done, DeckRefused, ReadFault, TooLong, BadWords}
use Rattle.transyt_outcome.specs.Outcome.{Reporting}

-- How lines are answered, each over the state after the lines before it: the state before the first line, the text of a
-- line, how it ends the run if it does, its steps, and the state after it; and at the end of the input the text, and
-- whether that is a refusal.
pub record Answering (State : Type 0) : Type 0 where
  pub start : State
  pub text : State → List ℕ → List ℕ
  pub ends : State → List ℕ → Option Ending
  pub cost : State → List ℕ → ℕ
  pub next : State → List ℕ → State
  pub closing : State → List ℕ
  pub refused : State → Bool

-- the answers to lines: their text, how one of them ended the run if one did, their steps, and the state after them
pub record RunAnswers (State : Type 0) : Type 0 where
  pub text : List ℕ
  pub ending : Option Ending
  pub steps : ℕ
  pub state : State

-- the rest, or nothing after a line that ends the run
abbrev pub unless_ended : {X : Type 0} → Option Ending → X → X → X
unless_ended None nothing rest = rest
unless_ended (Some ending) nothing rest = nothing

-- whether an end is a refusal
abbrev pub is_refusal : Ending → Bool
is_refusal Stopped = false
is_refusal Refused = true

-- whether the end is a refusal, or the given answer where none came
abbrev pub or_else : Option Ending → Bool → Bool
or_else None other = other
or_else (Some ending) other = is_refusal ending

-- the answers to no line
abbrev pub no_answers : {State : Type 0} → Answering State → RunAnswers State
no_answers by = record { text = []; ending = None; steps = 0; state = by.start }

-- the answers so far with that to one line more
abbrev pub one_more : {State : Type 0} → Answering State → RunAnswers State → List ℕ → RunAnswers State
one_more by before line = record {
  text = before.text ++ by.text before.state line;
  ending = by.ends before.state line;
  steps = before.steps + by.cost before.state line;
  state = by.next before.state line;
}

-- after the line that ends the run no line is answered
abbrev pub answer_next : {State : Type 0} → Answering State → RunAnswers State → List ℕ → RunAnswers State
answer_next by before line = unless_ended before.ending before (one_more by before line)

-- the answers to lines, one after another, up to the one that ends the run
abbrev pub answers_by : {State : Type 0} → Answering State → List (List ℕ) → RunAnswers State
answers_by by ls = fold (answer_next by) (no_answers by) ls

-- the report by the answers to all lines of an input: their text and, where none of them ends the run, that at its end
abbrev pub report_of : {State : Type 0} → Answering State → RunAnswers State → List ℕ
report_of by all = all.text ++ unless_ended all.ending [] (by.closing all.state)

-- whether the input is refused
abbrev pub refused_of : {State : Type 0} → Answering State → RunAnswers State → Bool
refused_of by all = or_else all.ending (by.refused all.state)

-- the report of bytes by the answers to their lines: to the whole lines while more may come, and of an input to all its
-- lines and to its end
abbrev pub of_lines : {State : Type 0} → Answering State → Reporting
of_lines by = record {
  so_far = λ bytes. (answers_by by (whole bytes)).text;
  ends = λ bytes. (answers_by by (whole bytes)).ending;
  report = λ input. report_of by (answers_by by (lines input));
  refused = λ input. refused_of by (answers_by by (lines input));
}

-- a line was answered over a state: its text was written, and where it doesn't end the run the state after it is its own
pub record LineAnswered {State : Type 0} (by : Answering State) (state state_new : State) (old new : Option (List ℕ))
    (line : List ℕ) (ending : Option Ending) : Type 0 where
  pub adds : Adds old new (by.text state line)
  pub ending_is : ending ≡ by.ends state line
  pub goes_on : ending ≡ None → state_new ≡ by.next state line

-- the end of the input was answered: its text was written
pub record EndAnswered {State : Type 0} (by : Answering State) (state : State) (old new : Option (List ℕ))
    (refused : Bool) : Type 0 where
  pub adds : Adds old new (by.closing state)
  pub refused_is : refused ≡ by.refused state

-- the steps of the whole lines of bytes, and of all lines
abbrev pub steps_whole : {State : Type 0} → Answering State → List ℕ → ℕ
steps_whole by taken = (answers_by by (whole taken)).steps

abbrev pub steps_all : {State : Type 0} → Answering State → List ℕ → ℕ
steps_all by taken = (answers_by by (lines taken)).steps

-- at most the steps of the whole lines taken or, where the source was read to its end, of all lines
abbrev pub StepsMost : {State : Type 0} → Answering State → Option (List ℕ) → List ℕ → ℕ → ℕ → Type 0
StepsMost by left taken steps steps_new =
    (steps_new ≤ steps + steps_whole by taken) ⊎ (IsAtEnd left × (steps_new ≤ steps + steps_all by taken))

-- the steps of the lines taken: exactly these where the run ended, else at most
abbrev pub StepsSaid : {State : Type 0} → Answering State → Option (List ℕ) → List ℕ → ℕ → ℕ → Status → Type 0
StepsSaid by left taken steps steps_new Done = steps_new ≡ steps + steps_all by taken
StepsSaid by left taken steps steps_new DeckRefused = steps_new ≡ steps + steps_all by taken
StepsSaid by left taken steps steps_new ReadFault = steps_new ≤ steps + steps_whole by taken
StepsSaid by left taken steps steps_new TooLong = steps_new ≤ steps + steps_whole by taken
StepsSaid by left taken steps steps_new BadWords = ⊥
StepsSaid by left taken steps steps_new _ = StepsMost by left taken steps steps_new

-- the steps of a run: those of the bytes that it took, as its status says
pub record StepsTaken {State : Type 0} (by : Answering State) (left left_new : Option (List ℕ)) (steps steps_new : ℕ)
    (status : Status) : Type 0 where
  pub taken : List ℕ
  pub takes : Takes left left_new taken
  pub says : StepsSaid by left_new taken steps steps_new status
