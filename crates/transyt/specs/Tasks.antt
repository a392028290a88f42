-- A task, and the outcome of a run with it.
use Rattle.std.specs.Prelude.{◌≡◌, ℕ, ◌+◌, ◌++◌, ◌≤◌, List, false, Option, Some}
use Rattle.transyt_outcome.specs.declared.status.Status.{Status}
use Rattle.transyt_outcome.specs.declared.status.Status.TheVariants.{Done}
use Rattle.transyt_outcome.specs.Outcome.{Reporting, Outcome, TextOutcome, Headline, Complete, TooLongWhere}

-- the task of words: the report of an input, or a text for which nothing is read
pub data Task : Type 0 where
  Reads : Reporting → Task
  Writes : List ℕ → Task

-- the outcome of a run with what the words ask for
abbrev pub TaskOutcome : Task → Option (List ℕ) → Option (List ℕ) → Option ℕ → Option (List ℕ) → Option (List ℕ)
    → Status → Type 0
TaskOutcome (Reads by) left left_new last_new written written_new status =
    Outcome by left left_new last_new written written_new status
TaskOutcome (Writes text) left left_new last_new written written_new status =
    TextOutcome text false written written_new status

-- with no fault and no want of memory the report, or the text, was written, with its status
abbrev pub TaskHeadline : Task → Option (List ℕ) → Option (List ℕ) → Option (List ℕ) → Status → Type 0
TaskHeadline (Reads by) left written written_new status = Headline by left written written_new status
TaskHeadline (Writes text) left written written_new status =
    (held : List ℕ) → written ≡ Some held → (written_new ≡ Some (held ++ text)) × (status ≡ Done)

-- and the status is that of the input, for a sink that doesn't tell
abbrev pub TaskComplete : Task → Option (List ℕ) → Status → Type 0
TaskComplete (Reads by) left status = Complete by left status
TaskComplete (Writes text) left status = status ≡ Done

-- an input of too many bytes is told to be too long
abbrev pub TaskTooLong : Task → Option (List ℕ) → Status → Type 0
TaskTooLong (Reads by) left status = TooLongWhere by left status
TaskTooLong (Writes text) left status = Unit {0}

-- nothing is read
abbrev pub IsWriting : Task → Type 0
IsWriting (Reads by) = ⊥
IsWriting (Writes text) = Unit {0}

-- the steps of a text, exactly where it was written, else at most
abbrev pub TextSteps : ℕ → ℕ → ℕ → Status → Type 0
TextSteps cost steps steps_new Done = steps_new ≡ steps + cost
TextSteps cost steps steps_new status = steps_new ≤ steps + cost
