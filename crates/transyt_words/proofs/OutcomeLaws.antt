-- The outcome of a run that has taken its input whole and told its answer.
use Rattle.std.proofs.Common.{◌≡◌, ℕ, ◌≤◌, ◌+◌, List, [], Option, Some, None, length, refl, ap, subst, sym, ◌∙◌, inr, inl, ◌⊎◌}
use Rattle.std.proofs.Common.{Err, arith}
use Rattle.std.specs.Result.{IsErrOf}
use Rattle.transyt_io.specs.declared.reader.ReadStop.{ReadStop}
use Rattle.transyt_io.specs.declared.reader.ReadStop.TheVariants.{Fault, TooLong as Long}
use Rattle.transyt_io.specs.Streams.{Takes, IsAtEnd, StopTakes, Rose}
use Rattle.transyt_io.proofs.Told.{adds_nothing}
use Rattle.transyt_outcome.specs.Outcome.{Outcome, IsWritten, Reporting, StatusSays, StatusSaysOfText}
use Rattle.transyt_outcome.specs.declared.status.Status.{Status}
use Rattle.transyt_outcome.specs.declared.status.Status.TheVariants.{Done, DeckRefused, ReadFault, WriteFault, NoMemory}
use Rattle.transyt_outcome.specs.declared.status.Status.TheVariants.{TooLong}
use Rattle.transyt_words.specs.Answer.{AnswerValue, answer_text, of_whole}
use Rattle.transyt_words.specs.Whole.{Told, IsSilent, StepsWithin}

-- nothing was to be written before the last read
none_before : (answer : List ℕ → AnswerValue) (last : Option ℕ) (taken out : List ℕ)
    → IsWritten (of_whole answer) last taken out
none_before answer None taken out = tt
none_before answer (Some n) taken out = record { back = out; parts = refl }

-- each row of the answer is one of the outcome
row_of_told : (answer : List ℕ → AnswerValue) (left : Option (List ℕ)) (last : Option ℕ) (taken out : List ℕ)
    (status : Status) → IsAtEnd left → length taken ≤ 4194304
    → StatusSaysOfText (answer_text (answer taken)) (answer taken).refused out status
    → StatusSays (of_whole answer) left last taken out status
row_of_told answer left last taken out Done end few row =
    record { out_is = row.0; status = row.1; ended = inl end; few = few }
row_of_told answer left last taken out DeckRefused end few row =
    record { out_is = row.0; status = row.1; ended = inl end; few = few }
row_of_told answer left last taken out WriteFault end few row = (inr (end, row), none_before answer last taken out)
row_of_told answer left last taken out NoMemory end few row = row
row_of_told answer left last taken out _ end few row = absurd row

-- so the run has this outcome
pub told_outcome : (answer : List ℕ → AnswerValue) (found : AnswerValue) (bytes taken : List ℕ)
    (left left_new : Option (List ℕ)) (last : Option ℕ) (written written_new : Option (List ℕ)) (status : Status)
    → Takes left left_new taken → bytes ≡ taken → IsAtEnd left_new → length taken ≤ 4194304 → found ≡ answer bytes
    → Told found written written_new status → Outcome (of_whole answer) left left_new last written written_new status
told_outcome answer found bytes taken left left_new last written written_new status takes same end few is told =
    let here : Told (answer taken) written written_new status =
    subst (λ a. Told a written written_new status) (is ∙ ap answer same) told in
    record {
      taken = taken;
      out = here.out;
      takes = takes;
      adds = here.adds;
      row = row_of_told answer left_new last taken here.out status end few here.row;
    }

-- nothing is written where there is no memory
pub no_memory : (by : Reporting) (left left_new : Option (List ℕ)) (last : Option ℕ) (written : Option (List ℕ))
    (taken : List ℕ) → Takes left left_new taken → Outcome by left left_new last written written NoMemory
no_memory by left left_new last written taken takes =
    record { taken = taken; out = []; takes = takes; adds = adds_nothing written; row = refl }

-- nor where remarks were made before
pub no_memory_after : (by : Reporting) (left left_new : Option (List ℕ)) (last : Option ℕ)
    (written written_new : Option (List ℕ)) (taken : List ℕ) → Takes left left_new taken → written_new ≡ written
    → Outcome by left left_new last written written_new NoMemory
no_memory_after by left left_new last written written_new taken takes same =
    subst (λ w. Outcome by left left_new last written w NoMemory) (sym same)
    (no_memory by left left_new last written taken takes)

-- what is told after remarks is told of the sink before them
pub told_after : (found : AnswerValue) (written remarked written_new : Option (List ℕ)) (status : Status)
    → remarked ≡ written → Told found remarked written_new status → Told found written written_new status
told_after found written remarked written_new status same told =
    subst (λ w. Told found w written_new status) same told

pub rose_after : (faults remarked faults_new : ℕ) → remarked ≡ faults → Rose remarked faults_new
    → Rose faults faults_new
rose_after faults remarked faults_new same rose = subst (λ n. Rose n faults_new) same rose

-- nor where a read stopped
stopped_row : (answer : List ℕ → AnswerValue) (left : Option (List ℕ)) (last : Option ℕ) (taken : List ℕ)
    (stop : ReadStop) (status : Status) → StopTakes taken stop → (stop ≡ Fault → status ≡ ReadFault)
    → (stop ≡ Long → status ≡ TooLong) → StatusSays (of_whole answer) left last taken [] status
stopped_row answer left last taken Fault status says fault long =
    subst (StatusSays (of_whole answer) left last taken []) (sym (fault refl)) (record { out_is = refl; open_yet = refl })
stopped_row answer left last taken Long status says fault long =
    subst (StatusSays (of_whole answer) left last taken []) (sym (long refl))
    (record { many = says; cut_off = record { out_is = refl; open_yet = refl } })

pub stopped_outcome : (answer : List ℕ → AnswerValue) (left left_new : Option (List ℕ)) (last : Option ℕ)
    (written : Option (List ℕ)) (taken : List ℕ) (stop : ReadStop) (status : Status) → Takes left left_new taken
    → StopTakes taken stop → (stop ≡ Fault → status ≡ ReadFault) → (stop ≡ Long → status ≡ TooLong)
    → Outcome (of_whole answer) left left_new last written written status
stopped_outcome answer left left_new last written taken stop status takes says fault long = record {
  taken = taken;
  out = [];
  takes = takes;
  adds = adds_nothing written;
  row = stopped_row answer left_new last taken stop status says fault long;
}

-- the source failed where the status says so
pub stopped_read : (stop : ReadStop) (status : Status) → (stop ≡ Long → status ≡ TooLong) → status ≡ ReadFault
    → IsErrOf {T = Unit {0}} (Err stop) Fault
stopped_read Fault status long is = refl
stopped_read Long status long is = let told : TooLong ≡ ReadFault = sym (long refl) ∙ is in cc

-- and the sink did not
pub stopped_write : (stop : ReadStop) (status : Status) → (stop ≡ Fault → status ≡ ReadFault)
    → (stop ≡ Long → status ≡ TooLong) → status ≡ WriteFault → ⊥
stopped_write Fault status fault long is = let told : ReadFault ≡ WriteFault = sym (fault refl) ∙ is in cc
stopped_write Long status fault long is = let told : TooLong ≡ WriteFault = sym (long refl) ∙ is in cc

-- the steps are those of the bytes taken, or none
pub steps_of : (most : List ℕ → ℕ) (left left_new : Option (List ℕ)) (taken bytes : List ℕ) (steps steps_new : ℕ)
    → Takes left left_new taken → bytes ≡ taken → steps_new ≤ steps + most bytes
    → StepsWithin most left left_new steps steps_new
steps_of most left left_new taken bytes steps steps_new takes same within =
    record { taken = taken; takes = takes; within = subst (λ b. steps_new ≤ steps + most b) same within }

pub no_steps : (most : List ℕ → ℕ) (left left_new : Option (List ℕ)) (taken : List ℕ) (steps : ℕ)
    → Takes left left_new taken → StepsWithin most left left_new steps steps
no_steps most left left_new taken steps takes = record { taken = taken; takes = takes; within = omega arith }

-- an answer that is told was read, and something was written of it
pub told_read : (answer : AnswerValue) (written written_new : Option (List ℕ)) (status : Status)
    → Told answer written written_new status → status ≡ ReadFault → ⊥
told_read answer written written_new status told is =
    subst (λ s. StatusSaysOfText (answer_text answer) answer.refused told.out s) is told.row

-- a status by which the input wasn't read to its end is silent
pub unread_silent : (status : Status) → (status ≡ ReadFault) ⊎ (status ≡ TooLong) → IsSilent status
unread_silent status (inl is) = subst IsSilent (sym is) tt
unread_silent status (inr is) = subst IsSilent (sym is) tt

pub told_spoken : (answer : AnswerValue) (written written_new : Option (List ℕ)) (status : Status)
    → Told answer written written_new status → (status ≡ NoMemory → ⊥) → IsSilent status → ⊥
told_spoken answer written written_new ReadFault told said silent = told.row
told_spoken answer written written_new TooLong told said silent = told.row
told_spoken answer written written_new NoMemory told said silent = said refl
told_spoken answer written written_new _ told said silent = silent
