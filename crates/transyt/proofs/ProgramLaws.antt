-- The run of the program, from what the top call's status says.
use Rattle.std.proofs.Common.{◌≡◌, ◌≢◌, ℕ, List, Option, None, Some, IfSome, Result, Ok, Err, IfOk, inl, inr}
use Rattle.std.proofs.Common.{ap, subst, refl, ◌∙◌, ◌≤◌, ◌↔◌, ◌++◌, length, arith}
use Rattle.std.specs.Option.{option_map}
use Rattle.transyt_io.specs.Streams.{Rose, Adds}
use Rattle.transyt_outcome.specs.Ends.{Ends}
use Rattle.transyt_outcome.specs.Outcome.{exit_number}
use Rattle.transyt_outcome.specs.declared.status.Status.{Status}
use Rattle.transyt_outcome.specs.declared.status.Status.TheVariants.{BadWords, ReadFault, WriteFault, NoMemory}
use Rattle.transyt_line_answers.specs.Report.{report, status}
use Rattle.transyt.specs.declared.word.Word.{Word}
use Rattle.transyt.specs.Program.{Sides, TopCall, ProgramRan, ProgramHeadline, OverRan, OverHeadline, held_after}
use Rattle.transyt.specs.Tasks.{Task, Reads, Writes, TaskOutcome, TaskHeadline, TaskComplete, TaskTooLong}
use Rattle.transyt.specs.Words.{task, task_of, IsRun, word_of}
use Rattle.transyt.proofs.TaskLaws.{word_settled, task_headline, task_complete, task_too_long, run_headline}

-- a sink in place of the one that holds it
abbrev pub inside : {S K H : Type 0} → (H → K) → Sides S H → Sides S K
inside inner sides = record { source = sides.source; sink = inner sides.sink; tell = sides.tell }

-- the call over a sink that holds another, as one over that other
pub inside_call : {S K H : Type 0} (inner : H → K) {words : List (List ℕ)} {old new : Sides S H} {ended : Status}
    → TopCall words old new ended → TopCall words (inside inner old) (inside inner new) ended
inside_call inner call = record {
  bad_words = call.bad_words;
  untouched = λ bad. ap (inside inner) (call.untouched bad);
  outcome = call.outcome;
  reads_nothing = call.reads_nothing;
  read_fault = call.read_fault;
  write_fault = call.write_fault;
  told = call.told;
  complete = call.complete;
  too_long = call.too_long;
  headline = call.headline;
}

-- the run of the program, where the words shown to the top call are those that it was given
pub program_ran : {S K : Type 0} (shown given : List (List ℕ)) (old new : Sides S K) (ended : Status) (number : ℕ)
    → shown ≡ given → number ≡ exit_number ended → TopCall shown old new ended → ProgramRan given old new number
program_ran shown given old new ended number same told call = record {
  ended = ended;
  number_is = told;
  call = subst (λ (words : List (List ℕ)). TopCall words old new ended) same call;
}

-- the headline of the program
pub program_headline : {S K : Type 0} {words : List (List ℕ)} {old new : Sides S K} {number : ℕ}
    → ProgramRan words old new number → ProgramHeadline words old.tell new.tell number
program_headline ran = λ run memory quiet input held left written few.
    let told = ran.call.headline run (λ e. memory (ran.number_is ∙ ap exit_number e)) quiet input held left written few in
    (told.0, ran.number_is ∙ ap exit_number told.1)

-- a count that stays at 0 didn't rise
pub none_rose : Rose 0 0 → ⊥
none_rose (inl less) = absurd (omega (arith, less))
none_rose (inr last) = absurd (omega (arith, last))

-- a writer that was taken from a sink holds what the sink told, with the bytes that were written
held_now : (contents written contents_new : Option (List ℕ)) (out : List ℕ) → Adds contents written out
    → IfSome written (λ held. contents_new ≡ Some held) → Adds contents (held_after contents contents_new) out
held_now None written contents_new out adds still = refl
held_now (Some held) None contents_new out adds still = absurd (cc)
held_now (Some held) (Some bytes) contents_new out adds still = still ∙ adds

-- and holds so what is told of it
retold : (contents contents_new : Option (List ℕ)) {held bytes : List ℕ} → contents ≡ Some held
    → held_after contents contents_new ≡ Some bytes → contents_new ≡ Some bytes
retold None contents_new is told = absurd (cc)
retold (Some held) contents_new is told = told

module _ (remaining left : Option (List ℕ)) (last : Option ℕ) (contents contents_new : Option (List ℕ))
    (ended : Status) where
  -- the outcome, by the bytes that the writer tells
  outcome_over : (written : Option (List ℕ)) → IfSome written (λ held. contents_new ≡ Some held) → last ≡ None
      → (asked : Task) → TaskOutcome asked remaining left last contents written ended
      → TaskOutcome asked remaining left None contents (held_after contents contents_new) ended
  outcome_over written still none (Reads by) told = subst
      (λ (l : Option ℕ). TaskOutcome (Reads by) remaining left l contents (held_after contents contents_new) ended) none
      (record {
        taken = told.taken;
        out = told.out;
        takes = told.takes;
        adds = held_now contents written contents_new told.out told.adds still;
        row = told.row;
      })
  outcome_over written still none (Writes text) told = record {
    out = told.out;
    adds = held_now contents written contents_new told.out told.adds still;
    row = told.row;
  }

module _ (remaining contents contents_new : Option (List ℕ)) (ended : Status) where
  -- the task, by the same bytes
  task_over : (asked : Task) → TaskHeadline asked remaining contents (held_after contents contents_new) ended
      → TaskHeadline asked remaining contents contents_new ended
  task_over (Reads by) told = λ input held left_is written_is few.
      let done = told input held left_is written_is few in (retold contents contents_new written_is done.0, done.1)
  task_over (Writes text) told = λ held written_is.
      let done = told held written_is in (retold contents contents_new written_is done.0, done.1)

-- a fact of the task of a word, where there is one
each : (P Q : Task → Type 0) → ((word : Word) → P (task word) → Q (task word)) → (o : Option Word)
    → IfSome (option_map task o) P → IfSome (option_map task o) Q
each P Q by None told = tt
each P Q by (Some word) told = by word told

-- of `run` it is the report of the input
word_headline : (ended : Status) (number : ℕ) → number ≡ exit_number ended
    → (remaining contents contents_new : Option (List ℕ)) (o : Option Word) → IsRun o
    → IfSome (option_map task o) (λ asked. TaskHeadline asked remaining contents contents_new ended)
    → (input held : List ℕ) → remaining ≡ Some input → contents ≡ Some held → length input ≤ 4194304
    → (contents_new ≡ Some (held ++ report input)) × (number ≡ exit_number (status input))
word_headline ended number number_is remaining contents contents_new None run told = absurd run
word_headline ended number number_is remaining contents contents_new (Some word) run told =
    λ input held left_is written_is few.
    let done = run_headline word run told input held left_is written_is few in
    (done.0, number_is ∙ ap exit_number done.1)

-- the run over a reader and a writer, by its status and the outcome of its words
pub over_by : {words : List (List ℕ)} {remaining contents contents_new : Option (List ℕ)} {number : ℕ} (ended : Status)
    (left : Option (List ℕ)) → number ≡ exit_number ended → (ended ≡ BadWords) ↔ (word_of words ≡ None)
    → (ended ≡ BadWords → IfSome contents (λ held. contents_new ≡ Some held))
    → IfSome (task_of words) (λ asked.
    TaskOutcome asked remaining left None contents (held_after contents contents_new) ended)
    → OverRan words remaining contents contents_new number
over_by {words = words} {remaining = remaining} {contents = contents} {contents_new = contents_new} {number = number}
    ended left number_is bad_words untouched outcome =
    let other : (s : Status) → number ≢ exit_number s → ended ≢ s = λ s differs is. differs (number_is ∙ ap exit_number is) in
    let Ended : Task → Type 0 = λ asked.
    TaskOutcome asked remaining left None contents (held_after contents contents_new) ended in
    record {
      ended = ended;
      number_is = number_is;
      left = left;
      bad_words = bad_words;
      untouched = untouched;
      outcome = outcome;
      told = λ read write memory. each Ended (λ asked. TaskHeadline asked remaining contents contents_new ended)
          (λ word is. task_over remaining contents contents_new ended (task word)
          (task_headline _ _ _ _ _ (other NoMemory memory) (other ReadFault read) (other WriteFault write) (task word)
          (word_settled word) is)) (word_of words) outcome;
      complete = λ read write memory. each Ended (λ asked. TaskComplete asked remaining ended)
          (λ word. task_complete _ _ _ _ _ (other NoMemory memory) (other ReadFault read) (other WriteFault write)
          (task word) (word_settled word)) (word_of words) outcome;
      too_long = λ read write memory. each Ended (λ asked. TaskTooLong asked remaining ended)
          (λ word. task_too_long _ _ _ _ _ (other NoMemory memory) (other ReadFault read) (other WriteFault write)
          (task word) (word_settled word)) (word_of words) outcome;
    }

-- the program ran over a reader and a writer
over_ran : {S K : Type 0} (words : List (List ℕ)) (old new : Sides S K) (contents_new : Option (List ℕ)) (number : ℕ)
    → ProgramRan words old new number → new.tell.last ≡ None
    → IfSome new.tell.written (λ held. contents_new ≡ Some held)
    → OverRan words old.tell.left old.tell.written contents_new number
over_ran {S = S} {K = K} words old new contents_new number ran none still =
    over_by ran.ended new.tell.left ran.number_is ran.call.bad_words
    (λ bad. subst (λ (s : Sides S K). IfSome s.tell.written (λ held. contents_new ≡ Some held)) (ran.call.untouched bad)
    still)
    (each (λ asked. TaskOutcome asked old.tell.left new.tell.left new.tell.last old.tell.written new.tell.written ran.ended)
    (λ asked. TaskOutcome asked old.tell.left new.tell.left None old.tell.written
    (held_after old.tell.written contents_new) ran.ended)
    (λ word. outcome_over old.tell.left new.tell.left new.tell.last old.tell.written contents_new ran.ended
    new.tell.written still none (task word)) (word_of words) ran.call.outcome)

pub over_headline : (words : List (List ℕ)) (remaining contents contents_new : Option (List ℕ)) (number : ℕ)
    → OverRan words remaining contents contents_new number → OverHeadline words remaining contents contents_new number
over_headline words remaining contents contents_new number ran = λ run read write memory.
    word_headline ran.ended number ran.number_is remaining contents contents_new (word_of words) run
    (ran.told read write memory)

-- of words that the program was given
module _ {T E : Type 0} (words : T → List (List ℕ)) (remaining contents contents_new : Option (List ℕ)) (number : ℕ)
  where
    pub given_ran : {S K : Type 0} (old new : Sides S K) (given : Result T E)
        → IfOk given (λ t. ProgramRan (words t) old new number) → old.tell.left ≡ remaining
        → old.tell.written ≡ contents → new.tell.last ≡ None
        → IfSome new.tell.written (λ held. contents_new ≡ Some held)
        → IfOk given (λ t. OverRan (words t) remaining contents contents_new number)
    given_ran old new (Ok t) ran same_left same_held none still =
        subst (λ (r : Option (List ℕ)). OverRan (words t) r contents contents_new number) same_left
        (subst (λ (w : Option (List ℕ)). OverRan (words t) old.tell.left w contents_new number) same_held
        (over_ran (words t) old new contents_new number ran none still))
    given_ran old new (Err e) ran same_left same_held none still = tt

    pub given_headline : (given : Result T E) → IfOk given (λ t. OverRan (words t) remaining contents contents_new number)
        → IfOk given (λ t. OverHeadline (words t) remaining contents contents_new number)
    given_headline (Ok t) ran = over_headline (words t) remaining contents contents_new number ran
    given_headline (Err e) ran = tt
