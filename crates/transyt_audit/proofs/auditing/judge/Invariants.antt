-- The verdict from here on is the verdict from the first line on.
use Rattle.std.proofs.Common.{◌≡◌, ◌+◌, ◌≤◌, length, None}
use Rattle.transyt_io.specs.Lines.{lines}
use Rattle.transyt_audit.specs.Findings.{steps_from}
use Rattle.transyt_audit.proofs.Onward.{onward}
use Rattle.transyt_audit.proofs.auditing.judge.Given as goal

abbrev pub invariant-loop-line : goal.invariant-loop-line
invariant-loop-line g l = record {
  same : onward l.fn.truth l.place l.lower l.number (lines l.rest) ≡ onward l.fn.truth 0 None l.first (lines l.table);
  truth : l.truth ≡ l.fn.truth;
  place : l.place ≤ l.number;
  number : l.number + length l.rest ≤ l.first + length l.table;
  steps : l.steps + steps_from l.fn.truth l.place ≤ l.fn.steps + steps_from l.fn.truth 0;
  more_steps : l.fn.steps ≤ l.steps;
}

-- how many bytes are left
abbrev pub decreases-loop-line : goal.decreases-loop-line
decreases-loop-line g l = length l.rest
