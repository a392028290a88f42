-- The characters of the steps before this one stand.
use Rattle.std.proofs.Common.{◌≡◌, ◌+◌, ◌++◌, length, map}
use Rattle.std.specs.List.{range_with_len}
use Rattle.transyt_report.specs.Chart.{mark_at}
use Rattle.transyt_report.proofs.charting.put_cycle.Given as goal

-- the characters of the steps before this one stand
abbrev pub invariant-loop-step : goal.invariant-loop-step
invariant-loop-step l = record {
  text : l.line ≡ l.fn.line ++ map (mark_at l.go l.queue) (range_with_len 0 l.step);
  room : length l.line ≡ length l.fn.line + l.step;
}
