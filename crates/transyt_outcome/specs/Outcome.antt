-- The report of an input, the meaning of a status (the bytes taken and those written), and the exit numbers.
use Rattle.std.specs.Prelude.{◌≡◌, ◌⊎◌, ℕ, ◌-◌, ◌++◌, ◌≤◌, ◌<◌, List, [], Bool, true, false, Option, None, Some, IfSome}
use Rattle.std.specs.Prelude.{length, take, if◌then◌else◌}
use Rattle.transyt_io.specs.Streams.{Takes, Adds, IsAtEnd}
use Rattle.transyt_io.specs.declared.reader.ReadStop.{ReadStop}
use Rattle.transyt_io.specs.declared.reader.ReadStop.TheVariants.{Fault, TooLong}
use Rattle.transyt_outcome.specs.declared.ending.Ending.{Ending}
use Rattle.transyt_outcome.specs.declared.ending.Stop.{Stop}
use Rattle.transyt_outcome.specs.declared.ending.Stop.TheVariants.{Write, Memory}
use Rattle.transyt_outcome.specs.declared.status.Status.{Status}
use Rattle.transyt_outcome.specs.declared.status.Status.TheVariants as s

-- The report of bytes: the text of them while more may come, and how they end the run before the input ends,
-- if they do; and, where they are the whole input, the report of it and whether it is refused.
pub record Reporting : Type 0 where
  pub so_far : List ℕ → List ℕ
  pub ends : List ℕ → Option Ending
  pub report : List ℕ → List ℕ
  pub refused : List ℕ → Bool

-- the status of a run that its input ended: whether that is a refusal
abbrev pub status_if : Bool → Status
status_if refused = if refused then s.DeckRefused else s.Done

-- the status of the run of an input
abbrev pub status_by : Reporting → List ℕ → Status
status_by by input = status_if (by.refused input)

-- the status of a run that an answer stopped, and of one that a read stopped
abbrev pub stop_status : Stop → Status
stop_status Write = s.WriteFault
stop_status Memory = s.NoMemory

abbrev pub read_stop_status : ReadStop → Status
read_stop_status Fault = s.ReadFault
read_stop_status TooLong = s.TooLong

-- these are some first bytes of all
pub record IsFront (front all : List ℕ) : Type 0 where
  pub back : List ℕ
  pub parts : front ++ back ≡ all

-- the run was ended
abbrev pub EndsRun : Option Ending → Type 0
EndsRun None = ⊥
EndsRun (Some ending) = Unit {0}

-- the report was written: the source was read to its end, or the bytes taken ended the run
pub record Finished (by : Reporting) (left : Option (List ℕ)) (taken out : List ℕ) (refused : Bool) : Type 0 where
  pub out_is : out ≡ by.report taken
  pub status : by.refused taken ≡ refused
  pub ended : IsAtEnd left ⊎ EndsRun (by.ends taken)
  pub few : length taken ≤ 4194304

-- exactly what is written while more may come was written, and the bytes taken don't end the run
pub record CutOff (by : Reporting) (taken out : List ℕ) : Type 0 where
  pub out_is : out ≡ by.so_far taken
  pub open_yet : by.ends taken ≡ None

-- one byte too many came: what was written is of the bytes before it
pub record TooMany (by : Reporting) (taken out : List ℕ) : Type 0 where
  pub many : length taken ≡ 4194305
  pub cut_off : CutOff by (take 4194304 taken) out

-- a front was written of the text while more may come or, where the source was read to its end, of the report
abbrev pub IsPart : Reporting → Option (List ℕ) → List ℕ → List ℕ → Type 0
IsPart by left taken out =
    IsFront out (by.so_far taken) ⊎ (IsAtEnd left × IsFront out (by.report taken))

-- the text of the bytes before the last read was written
abbrev pub IsWritten : Reporting → Option ℕ → List ℕ → List ℕ → Type 0
IsWritten by last taken out =
    IfSome last (λ n. IsFront (by.so_far (take (length taken - n) taken)) out)

-- the meaning of a status: the bytes taken and those written; `left` and `last` are what the source tells afterwards:
-- the bytes that it has left, and how many the last read gave
abbrev pub StatusSays : Reporting → Option (List ℕ) → Option ℕ → List ℕ → List ℕ → Status → Type 0
StatusSays by left last taken out s.Done = Finished by left taken out false
StatusSays by left last taken out s.DeckRefused = Finished by left taken out true
StatusSays by left last taken out s.ReadFault = CutOff by taken out
StatusSays by left last taken out s.TooLong = TooMany by taken out
StatusSays by left last taken out s.WriteFault = IsPart by left taken out × IsWritten by last taken out
StatusSays by left last taken out s.NoMemory = out ≡ []
StatusSays by left last taken out s.BadWords = ⊥

-- the outcome of a run: the bytes that it took, those that it wrote, and what its status says of both
pub record Outcome (by : Reporting) (left left_new : Option (List ℕ)) (last_new : Option ℕ)
    (written written_new : Option (List ℕ)) (status : Status) : Type 0 where
  pub taken : List ℕ
  pub out : List ℕ
  pub takes : Takes left left_new taken
  pub adds : Adds written written_new out
  pub row : StatusSays by left_new last_new taken out status

-- the meaning of a status for the bytes written of a text, and for whether the text is a refusal
abbrev pub StatusSaysOfText : List ℕ → Bool → List ℕ → Status → Type 0
StatusSaysOfText text refused out s.Done = (out ≡ text) × (refused ≡ false)
StatusSaysOfText text refused out s.DeckRefused = (out ≡ text) × (refused ≡ true)
StatusSaysOfText text refused out s.WriteFault = IsFront out text
StatusSaysOfText text refused out s.NoMemory = out ≡ []
StatusSaysOfText text refused out _ = ⊥

-- the outcome of writing a text: the bytes written, and what the status says of them
pub record TextOutcome (text : List ℕ) (refused : Bool) (written written_new : Option (List ℕ))
    (status : Status) : Type 0 where
  pub out : List ℕ
  pub adds : Adds written written_new out
  pub row : StatusSaysOfText text refused out status

-- bytes after those that end the run change nothing
pub record IsSettled (by : Reporting) : Type 0 where
  pub ends : (taken more : List ℕ) → EndsRun (by.ends taken) → by.ends (taken ++ more) ≡ by.ends taken
  pub report : (taken more : List ℕ) → EndsRun (by.ends taken) → by.report (taken ++ more) ≡ by.report taken
  pub refused : (taken more : List ℕ) → EndsRun (by.ends taken) → by.refused (taken ++ more) ≡ by.refused taken

-- of an input that isn't too long the report was written, and the status is its own
abbrev pub Headline : Reporting → Option (List ℕ) → Option (List ℕ) → Option (List ℕ) → Status → Type 0
Headline by left written written_new status =
    (input held : List ℕ) → left ≡ Some input → written ≡ Some held → length input ≤ 4194304
    → (written_new ≡ Some (held ++ by.report input)) × (status ≡ status_by by input)

-- the status of an input that isn't too long, for a sink that doesn't tell what was written
abbrev pub Complete : Reporting → Option (List ℕ) → Status → Type 0
Complete by left status =
    (input : List ℕ) → left ≡ Some input → length input ≤ 4194304 → status ≡ status_by by input

-- an input of too many bytes, of which those that may come don't end the run, is told to be too long
abbrev pub TooLongWhere : Reporting → Option (List ℕ) → Status → Type 0
TooLongWhere by left status =
    (input : List ℕ) → left ≡ Some input → 4194304 < length input → by.ends (take 4194304 input) ≡ None
    → status ≡ s.TooLong

-- the exit number of a status
abbrev pub exit_number : Status → ℕ
exit_number s.Done = 0
exit_number s.BadWords = 1
exit_number s.DeckRefused = 2
exit_number s.ReadFault = 3
exit_number s.WriteFault = 4
exit_number s.NoMemory = 5
exit_number s.TooLong = 6
