-- The program with its words, between a source and a sink.
use Rattle.std.specs.Prelude.{◌≡◌, ◌≢◌, ◌↔◌, ◌⊎◌, ◌≤◌, ◌++◌, ℕ, List, Option, None, Some, IfSome, drop, length}
use Rattle.std.specs.Option.{option_and}
use Rattle.std.specs.declared.io.ErrorKind.{ErrorKind}
use Rattle.std.specs.declared.io.ErrorKind.TheVariants.{OutOfMemory}
use Rattle.transyt_io.specs.Streams.{Rose}
use Rattle.transyt_outcome.specs.Ends.{Ends}
use Rattle.transyt_outcome.specs.Outcome.{exit_number}
use Rattle.transyt_outcome.specs.declared.status.Status.{Status}
use Rattle.transyt_outcome.specs.declared.status.Status.TheVariants.{BadWords, ReadFault, WriteFault, NoMemory}
use Rattle.transyt_line_answers.specs.Report.{report, status}
use Rattle.transyt.specs.Tasks.{TaskOutcome, TaskHeadline, TaskComplete, TaskTooLong, IsWriting}
use Rattle.transyt.specs.Words.{task_of, IsRun, word_of}

-- neither count of faults rose
pub record NoFault (old new : Ends) : Type 0 where
  pub read : Rose old.reads new.reads → ⊥
  pub write : Rose old.writes new.writes → ⊥

-- a source and a sink, with what they tell
pub record Sides (S K : Type 0) : Type 0 where
  pub source : S
  pub sink : K
  pub tell : Ends

-- the two, by the meanings of both
abbrev pub sides_of : {S K : Type 0} → (S → K → Ends) → S → K → Sides S K
sides_of ends source sink = record { source = source; sink = sink; tell = ends source sink }

-- the top call was made with these words: what its status says
pub record TopCall {S K : Type 0} (words : List (List ℕ)) (old new : Sides S K) (ended : Status) : Type 0 where
  pub bad_words : (ended ≡ BadWords) ↔ (word_of words ≡ None)
  pub untouched : ended ≡ BadWords → new ≡ old
  pub outcome : IfSome (task_of words) (λ asked.
      TaskOutcome asked old.tell.left new.tell.left new.tell.last old.tell.written new.tell.written ended)
  pub reads_nothing : IfSome (task_of words) (λ asked. IsWriting asked → new.source ≡ old.source)
  pub read_fault : ended ≡ ReadFault → Rose old.tell.reads new.tell.reads
  pub write_fault : ended ≡ WriteFault → Rose old.tell.writes new.tell.writes
  pub told : ended ≢ NoMemory → NoFault old.tell new.tell → IfSome (task_of words) (λ asked.
      TaskHeadline asked old.tell.left old.tell.written new.tell.written ended)
  pub complete : ended ≢ NoMemory → NoFault old.tell new.tell → IfSome (task_of words) (λ asked.
      TaskComplete asked old.tell.left ended)
  pub too_long : ended ≢ NoMemory → NoFault old.tell new.tell → IfSome (task_of words) (λ asked.
      TaskTooLong asked old.tell.left ended)
  pub headline : IsRun (word_of words) → ended ≢ NoMemory → NoFault old.tell new.tell
      → (input held : List ℕ) → old.tell.left ≡ Some input → old.tell.written ≡ Some held → length input ≤ 4194304
      → (new.tell.written ≡ Some (held ++ report input)) × (ended ≡ status input)

-- the words after the program's name
abbrev pub after_name : {X : Type 0} → List X → List X
after_name given = drop 1 given

-- the program ran the top call once with these words: what its status says, and the number is that of the status
pub record ProgramRan {S K : Type 0} (words : List (List ℕ)) (old new : Sides S K) (number : ℕ) : Type 0 where
  pub ended : Status
  pub number_is : number ≡ exit_number ended
  pub call : TopCall words old new ended

-- with `run`, no fault and no want of memory the report of the input is written, and the number is that of its status
abbrev pub ProgramHeadline : List (List ℕ) → Ends → Ends → ℕ → Type 0
ProgramHeadline words old new number =
    IsRun (word_of words) → number ≢ 5 → NoFault old new
    → (input held : List ℕ) → old.left ≡ Some input → old.written ≡ Some held → length input ≤ 4194304
    → (new.written ≡ Some (held ++ report input)) × (number ≡ exit_number (status input))

-- the exit number where the words could not be had
abbrev pub number_without_words : ErrorKind → ℕ
number_without_words OutOfMemory = 5
number_without_words _ = 7

-- the bytes that a writer holds, where it told what it held before
abbrev pub held_after : Option (List ℕ) → Option (List ℕ) → Option (List ℕ)
held_after contents contents_new = option_and contents contents_new

-- the program ran over a reader and a writer of std, by what remains of the one and what the other holds: the number is
-- that of a status, which says what the top call's says. What the reader tells at the end, `left`, isn't seen from
-- outside; std tells of no last read and no fault. So where the number is none of 3, 4 and 5 (a read failed, a write
-- failed, no memory) the writer holds what it held and the task of the words
pub record OverRan (words : List (List ℕ)) (remaining contents contents_new : Option (List ℕ)) (number : ℕ)
    : Type 0 where
  pub ended : Status
  pub number_is : number ≡ exit_number ended
  pub left : Option (List ℕ)
  pub bad_words : (ended ≡ BadWords) ↔ (word_of words ≡ None)
  pub untouched : ended ≡ BadWords → IfSome contents (λ held. contents_new ≡ Some held)
  pub outcome : IfSome (task_of words) (λ asked.
      TaskOutcome asked remaining left None contents (held_after contents contents_new) ended)
  pub told : number ≢ 3 → number ≢ 4 → number ≢ 5 → IfSome (task_of words) (λ asked.
      TaskHeadline asked remaining contents contents_new ended)
  pub complete : number ≢ 3 → number ≢ 4 → number ≢ 5 → IfSome (task_of words) (λ asked.
      TaskComplete asked remaining ended)
  pub too_long : number ≢ 3 → number ≢ 4 → number ≢ 5 → IfSome (task_of words) (λ asked.
      TaskTooLong asked remaining ended)

-- the program ran so with std's words; or without memory for them the number is 5, and the writer holds what it held
abbrev pub ArgsRan : List (List ℕ) → Option (List ℕ) → Option (List ℕ) → Option (List ℕ) → ℕ → Type 0
ArgsRan words remaining contents contents_new number =
    OverRan words remaining contents contents_new number
    ⊎ ((number ≡ 5) × IfSome contents (λ held. contents_new ≡ Some held))

-- with `run` that is the report of the input, and the number is that of the input's status
abbrev pub OverHeadline : List (List ℕ) → Option (List ℕ) → Option (List ℕ) → Option (List ℕ) → ℕ → Type 0
OverHeadline words remaining contents contents_new number =
    IsRun (word_of words) → number ≢ 3 → number ≢ 4 → number ≢ 5
    → (input held : List ℕ) → remaining ≡ Some input → contents ≡ Some held → length input ≤ 4194304
    → (contents_new ≡ Some (held ++ report input)) × (number ≡ exit_number (status input))
