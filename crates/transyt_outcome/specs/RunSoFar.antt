-- A run over the lines of a source while it goes on, and when it ended. No clause of the top call cites it.
use Rattle.std.specs.Prelude.{◌≡◌, ◌≤◌, ℕ, ◌+◌, Bool, true, List, None, length}
use Rattle.transyt_io.specs.Reading.{Reading, HasRead}
use Rattle.transyt_io.specs.Streams.{Takes, Adds}
use Rattle.transyt_outcome.specs.declared.status.Status.{Status}
use Rattle.transyt_outcome.specs.Ends.{Ends, FaultRose}
use Rattle.transyt_outcome.specs.Outcome.{IsWritten, Outcome}
use Rattle.transyt_outcome.specs.Runs.{Answering, of_lines, answers_by, StepsTaken}

-- A run that goes on: the state is that after its lines, `lines` tells how many were counted, and `counted` whether all
-- steps are counted. Source, sink and steps come with what they told at the start of the run and tell now.
pub record RunSoFar {State : Type 0} (by : Answering State) (state : State) (lines : ℕ) (counted : Bool)
    (reading : Reading) (old new : Ends) (steps steps_new : ℕ) : Type 0 where
  -- the bytes taken, and the lines answered
  pub taken : List ℕ
  pub before : List (List ℕ)
  -- the reader took the bytes, and handed out the lines
  pub takes : Takes old.left new.left taken
  pub has_read : HasRead reading new.left taken before
  pub live : reading.live ≡ true
  pub most : length taken ≤ 4194304
  -- the answers to the lines were written, none of them ends the run, and all lines that were whole before the last read
  -- are answered
  pub adds : Adds old.written new.written (answers_by by before).text
  pub open_yet : (answers_by by before).ending ≡ None
  pub state_is : state ≡ (answers_by by before).state
  pub steps_are : counted ≡ true → steps_new ≡ steps + (answers_by by before).steps
  pub written_then : IsWritten (of_lines by) new.last taken (answers_by by before).text
  pub counts : lines ≤ length before
  -- no count of faults fell
  pub reads : old.reads ≤ new.reads
  pub writes : old.writes ≤ new.writes

-- A run over lines: its outcome, where all steps are counted its steps, and its faults.
pub record RunOutcome {State : Type 0} (by : Answering State) (counted : Bool) (old new : Ends) (steps steps_new : ℕ)
    (status : Status) : Type 0 where
  pub outcome : Outcome (of_lines by) old.left new.left new.last old.written new.written status
  pub steps_taken : counted ≡ true → StepsTaken by old.left new.left steps steps_new status
  pub reads : old.reads ≤ new.reads
  pub writes : old.writes ≤ new.writes
  pub fault : FaultRose old new status
