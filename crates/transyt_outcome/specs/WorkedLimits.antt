-- Worked claims: inputs of some lines, and of as many bytes as an input may have and one more; what may be claimed of a
-- run over them, and what may not.
use Rattle.std.specs.Prelude.{ℕ, ◌++◌, List, [], ◌∷◌, Option, None, Some, codes, false, length, nat_eq, if◌then◌else◌}
use Rattle.transyt_outcome.specs.declared.ending.Ending.TheVariants.{Stopped}
use Rattle.transyt_outcome.specs.declared.status.Status.{Status}
use Rattle.transyt_outcome.specs.declared.status.Status.TheVariants as s
use Rattle.transyt_outcome.specs.Outcome.{Reporting}
use Rattle.transyt_outcome.specs.WorkedOutcomes.{two_lines, two_report, two_so_far}

-- How many bytes there are is told, after a 7 where they are the whole input. This many of them end the run, neither
-- fewer nor more, and none are refused.
abbrev pub tally : ℕ → Reporting
tally last = record {
  so_far = λ bytes. length bytes ∷ [];
  ends = λ bytes. if nat_eq (length bytes) last then Some Stopped else None;
  report = λ bytes. 7 ∷ length bytes ∷ [];
  refused = λ bytes. false;
}

-- lines of which the second ends the run, and their report
abbrev pub stopped_lines : List ℕ
stopped_lines = codes "ab" ++ 10 ∷ codes "Stop" ++ 10 ∷ []

abbrev pub stopped_report : List ℕ
stopped_report = codes ">ab" ++ 10 ∷ codes ">Stop" ++ 10 ∷ []

-- lines of which the last is refused, at the end of the input too
abbrev pub refused_lines : List ℕ
refused_lines = codes "ab" ++ 10 ∷ codes "R"

-- of a run: what its source has left, how many bytes its last read gave, the bytes taken, those written, and its status
abbrev pub FaultRow : Type 0
FaultRow = Option (List ℕ) × Option ℕ × List ℕ × List ℕ × Status

-- a read or a write failed so: the whole lines are answered, or a front of the answers was written, or at the end of the
-- source a front of the report
abbrev pub fault_rows : List FaultRow
fault_rows =
    (None, None, two_lines, two_so_far, s.ReadFault)
    ∷ (Some (codes "f"), Some 3, two_lines, two_so_far, s.WriteFault)
    ∷ (Some (codes "f"), Some 4, two_lines, [], s.WriteFault)
    ∷ (Some [], Some 0, two_lines, two_report, s.WriteFault)
    ∷ []

-- and not so: the bytes taken end the run, or a line is answered that isn't whole; another byte is written, or more than
-- is answered while more may come, or more than the report
abbrev pub no_fault_rows : List FaultRow
no_fault_rows =
    (Some (codes "f"), Some 0, stopped_lines, stopped_report, s.ReadFault)
    ∷ (Some (codes "f"), Some 0, two_lines, two_report, s.ReadFault)
    ∷ (Some (codes "f"), Some 4, two_lines, codes ">b", s.WriteFault)
    ∷ (Some (codes "f"), Some 4, two_lines, two_so_far ++ codes ">", s.WriteFault)
    ∷ (Some [], Some 0, two_lines, two_report ++ codes "3", s.WriteFault)
    ∷ []

-- of a run: the bytes taken, the steps after it where 7 were made before it, and its status
abbrev pub StepRow : Type 0
StepRow = List ℕ × ℕ × Status

-- at most the steps of the whole lines where a read failed or too many bytes came, exactly those of all lines where the
-- run was refused
abbrev pub step_rows : List StepRow
step_rows =
    (two_lines, 7, s.ReadFault) ∷ (two_lines, 9, s.ReadFault) ∷ (two_lines, 9, s.TooLong)
    ∷ (refused_lines, 110, s.DeckRefused) ∷ []

abbrev pub no_step_rows : List StepRow
no_step_rows =
    (two_lines, 10, s.ReadFault) ∷ (two_lines, 10, s.TooLong) ∷ (refused_lines, 109, s.DeckRefused)
    ∷ (refused_lines, 111, s.DeckRefused) ∷ []
