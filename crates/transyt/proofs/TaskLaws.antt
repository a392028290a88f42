-- Where no count of faults rose, a run's status is none of a fault, so its outcome is the whole text.
use Rattle.std.proofs.Common.{◌≡◌, ◌≢◌, ℕ, ◌++◌, List, Option, Some, IfSome, Result, Ok, Err, true, false, length, ◌≤◌}
use Rattle.std.proofs.Common.{refl, ap, subst, ◌∙◌, arith}
use Rattle.std.specs.Option.{option_map}
use Rattle.transyt_io.specs.Streams.{Adds}
use Rattle.transyt_outcome.specs.declared.status.Status.{Status}
use Rattle.transyt_outcome.specs.declared.status.Status.TheVariants.{Done, DeckRefused, ReadFault, WriteFault, NoMemory}
use Rattle.transyt_outcome.specs.Outcome.{IsSettled, StatusSaysOfText}
use Rattle.transyt_outcome.proofs.Head.{headline, complete, too_long_where}
use Rattle.transyt_outcome.proofs.MoreBytes.{lines_settled}
use Rattle.transyt_line_answers.specs.Report.{deck_answering, report, status}
use Rattle.transyt_words.specs.Whole.{StepsWithin, most_of_cut, most_after}
use Rattle.transyt_deck.specs.declared.reader.CardStop.{CardStop}
use Rattle.transyt_deck.specs.declared.cut.Cut.{Cut}
use Rattle.transyt_deck.specs.Deck.{cut_of}
use Rattle.transyt.specs.declared.word.Word.{Word}
use Rattle.transyt.specs.declared.word.Word.TheVariants as w
use Rattle.transyt.specs.Tasks.{Task, Reads, Writes, TaskOutcome, TaskHeadline, TaskComplete, TaskTooLong}
use Rattle.transyt.specs.Words.{task, IsRun}

-- the report of an input doesn't change with bytes after those that end the run
abbrev pub IsSettledTask : Task → Type 0
IsSettledTask (Reads by) = IsSettled by
IsSettledTask (Writes text) = Unit {0}

-- it is so of every word: a word that takes its input whole isn't ended by any bytes
pub word_settled : (word : Word) → IsSettledTask (task word)
word_settled (w.Run workers) = lines_settled deck_answering
word_settled (w.Make town) = tt
word_settled (w.Brief town workers) = tt
word_settled w.Version = tt
word_settled _ = record {
  ends = λ taken more ended. absurd ended;
  report = λ taken more ended. absurd ended;
  refused = λ taken more ended. absurd ended;
}

-- a text with no fault and no want of memory was written
text_done : (text out : List ℕ) (status : Status) → StatusSaysOfText text false out status → status ≢ NoMemory
    → (status ≡ WriteFault → ⊥) → (out ≡ text) × (status ≡ Done)
text_done text out Done row memory no_write = (row.0, refl)
text_done text out DeckRefused row memory no_write = let is : false ≡ true = row.1 in absurd (cc)
text_done text out WriteFault row memory no_write = absurd (no_write refl)
text_done text out NoMemory row memory no_write = absurd (memory refl)
text_done text out _ row memory no_write = absurd row

module _ (left left_new : Option (List ℕ)) (last : Option ℕ) (written written_new : Option (List ℕ))
    {status : Status} (memory : status ≢ NoMemory) (no_read : status ≡ ReadFault → ⊥)
    (no_write : status ≡ WriteFault → ⊥) where
  -- the text that was asked for was written
  pub task_headline : (asked : Task) → IsSettledTask asked
      → TaskOutcome asked left left_new last written written_new status
      → TaskHeadline asked left written written_new status
  task_headline (Reads by) settled outcome = headline settled outcome memory no_read no_write
  task_headline (Writes text) settled outcome = λ held told.
      let done = text_done text outcome.out status outcome.row memory no_write in
      let P : Option (List ℕ) → Type 0 = λ o. Adds o written_new outcome.out in
      (subst P told outcome.adds ∙ ap (λ (xs : List ℕ). Some (held ++ xs)) done.0, done.1)

  -- with its status
  pub task_complete : (asked : Task) → IsSettledTask asked
      → TaskOutcome asked left left_new last written written_new status → TaskComplete asked left status
  task_complete (Reads by) settled outcome = complete settled outcome memory no_read no_write
  task_complete (Writes text) settled outcome = (text_done text outcome.out status outcome.row memory no_write).1

  -- and too many bytes are told to be too long
  pub task_too_long : (asked : Task) → IsSettledTask asked
      → TaskOutcome asked left left_new last written written_new status → TaskTooLong asked left status
  task_too_long (Reads by) settled outcome = too_long_where settled outcome memory no_read no_write
  task_too_long (Writes text) settled outcome = tt

-- a fact of a word's task is one of the words that ask for it
pub of_words : (P : Task → Type 0) {word : Word} {words : Option Word} → Some word ≡ words → P (task word)
    → IfSome (option_map task words) P
of_words P is told = subst (λ (o : Option Word). IfSome (option_map task o) P) is told

-- of words of `run` it is the report of the input
pub run_headline : (word : Word) {left written written_new : Option (List ℕ)} {status_is : Status} → IsRun (Some word)
    → TaskHeadline (task word) left written written_new status_is
    → (input held : List ℕ) → left ≡ Some input → written ≡ Some held → length input ≤ 4194304
    → (written_new ≡ Some (held ++ report input)) × (status_is ≡ status input)
run_headline (w.Run workers) run told = told
run_headline _ run told = absurd run

-- a task without steps by its cut takes none
most_none : (input : List ℕ) (cut : Result Cut CardStop) → most_of_cut (λ case. 0) input cut ≡ 0
most_none input (Ok cut) = refl
most_none input (Err stop) = refl

-- words without steps take none
pub no_steps : {left left_new : Option (List ℕ)} {steps steps_new : ℕ}
    → StepsWithin (most_after (λ case. 0)) left left_new steps steps_new → steps ≤ steps_new
    → steps_new ≡ steps
no_steps h later =
    let within = h.within in
    let none = most_none h.taken (cut_of h.taken) in
    omega (arith, within, none, later)
