-- A run that ends with one more call of `next`, by its status.
use Rattle.std.proofs.Common.{◌≡◌, ◌≤◌, inl, inr, ℕ, ◌+◌, ◌++◌, Bool, true, false, List}
use Rattle.std.proofs.Common.{Result, sym, subst, arith}
use Rattle.transyt_io.specs.declared.reader.Line.{Line}
use Rattle.transyt_io.specs.declared.reader.ReadStop.{ReadStop}
use Rattle.transyt_io.specs.Reading.{Reading, ReadsLine}
use Rattle.transyt_io.specs.Streams.{Takes, Adds, Rose}
use Rattle.transyt_io.proofs.Told.{takes_both}
use Rattle.transyt_outcome.specs.declared.status.Status.{Status}
use Rattle.transyt_outcome.specs.declared.status.Status.TheVariants.{Done, DeckRefused, ReadFault, WriteFault}
use Rattle.transyt_outcome.specs.Ends.{Ends, FaultRose}
use Rattle.transyt_outcome.specs.Runs.{Answering, RunAnswers, of_lines, answers_by}
use Rattle.transyt_outcome.specs.Runs.{steps_all, StepsSaid}
use Rattle.transyt_outcome.specs.Outcome.{Finished, IsWritten, StatusSays, status_if}
use Rattle.transyt_outcome.specs.RunSoFar.{RunSoFar, RunOutcome}
use Rattle.transyt_outcome.proofs.Written.{written_next}

-- a count that rose in the last call rose in all
rose_since : {first before after : ℕ} → first ≤ before → Rose before after → Rose first after
rose_since later (inl more) = inl (omega (arith, later, more))
rose_since later (inr last) = inr last

-- a fault of the last call is one of the run
fault_since : (old now new : Ends) (status : Status) → old.reads ≤ now.reads → old.writes ≤ now.writes
    → FaultRose now new status → FaultRose old new status
fault_since old now new ReadFault reads writes rose = rose_since reads rose
fault_since old now new WriteFault reads writes rose = rose_since writes rose
fault_since old now new _ reads writes rose = tt

-- a call of `next` between what source and sink tell before it and after it
abbrev pub Reads : Reading → Reading → Ends → Ends → Result Line ReadStop → Type 0
Reads reading reading_new now new result = ReadsLine reading reading_new now.left new.left now.last new.last result

module _ {State : Type 0} {by : Answering State} {state : State} {count : ℕ} {counted : Bool} {reading : Reading}
    {old now : Ends} {steps steps_now : ℕ} (way : RunSoFar by state count counted reading old now steps steps_now) where
  -- the answers so far
  abbrev pub so_far : RunAnswers State
  so_far = answers_by by way.before

  -- a fact of the state is one of the state after the lines
  pub at : (P : State → Type 0) → P state → P so_far.state
  at P h = subst P way.state_is h

  -- the steps with those of one line more
  pub sum_of : (P : ℕ → Type 0) (line : List ℕ) → counted ≡ true → P (steps_now + by.cost state line)
      → P (steps + (so_far.steps + by.cost so_far.state line))
  sum_of P line all h =
      let sum = way.steps_are all in
      let same : steps_now + by.cost so_far.state line ≡ steps + (so_far.steps + by.cost so_far.state line) =
      omega (arith, sum) in
      subst P same (at (λ s. P (steps_now + by.cost s line)) h)

-- one more call of `next`, after which no count fell
module _ {State : Type 0} {by : Answering State} {state : State} {count : ℕ} {counted : Bool} {reading : Reading}
    {old now : Ends} {steps steps_now : ℕ} (way : RunSoFar by state count counted reading old now steps steps_now)
    (reading_new : Reading) (new : Ends) (reads : now.reads ≤ new.reads) (writes : now.writes ≤ new.writes) where
  module _ {result : Result Line ReadStop} (p : Reads reading reading_new now new result) where
    -- all bytes taken with those of the call
    abbrev pub taken_by : List ℕ
    taken_by = way.taken ++ (p.front ++ p.back)

    pub takes_all : Takes old.left new.left taken_by
    takes_all = takes_both _ _ _ way.taken (p.front ++ p.back) way.takes p.takes

    pub answered_all : IsWritten (of_lines by) new.last taken_by (so_far way).text
    answered_all = written_next by way.before p way.has_read way.written_then

    -- a run that ended with a status that is known
    pub ran : (out : List ℕ) {steps_new : ℕ} (known : Status) {status : Status} → status ≡ known
        → Adds old.written new.written out → StatusSays (of_lines by) new.left new.last taken_by out known
        → (counted ≡ true → StepsSaid by new.left taken_by steps steps_new known) → FaultRose now new known
        → RunOutcome by counted old new steps steps_new status
    ran out {steps_new} known is adds row says fault =
        let first_reads = way.reads in
        let first_writes = way.writes in
        subst (RunOutcome by counted old new steps steps_new) (sym is) (record {
          outcome = record { taken = taken_by; out = out; takes = takes_all; adds = adds; row = row };
          steps_taken = λ all. record { taken = taken_by; takes = takes_all; says = says all };
          reads = omega (arith, first_reads, reads);
          writes = omega (arith, first_writes, writes);
          fault = fault_since old now new known way.reads way.writes fault;
        })

    -- all is answered, and the run ends as a refusal or done
    pub ran_finished : (out : List ℕ) {steps_new : ℕ} (refused : Bool) {status : Status} → status ≡ status_if refused
        → Adds old.written new.written out → Finished (of_lines by) new.left taken_by out refused
        → (counted ≡ true → steps_new ≡ steps + steps_all by taken_by)
        → RunOutcome by counted old new steps steps_new status
    ran_finished out true is adds done sum = ran out DeckRefused is adds done sum tt
    ran_finished out false is adds done sum = ran out Done is adds done sum tt
