-- The links of a sweep, one after another.
use Rattle.std.proofs.Common.{◌≡◌, ◌+◌, length}
use Rattle.transyt_sweep.specs.Front.{AreFilled}
use Rattle.transyt_sweep.proofs.sweep.Sweep.fill.Given as goal

-- those so far are worked out, in a step each
abbrev pub invariant-loop-link : goal.invariant-loop-link
invariant-loop-link g l = record {
  filled : AreFilled l.net l.sweep l.link l.rows.now;
  marked : l.rows.marked ≡ l.fn.rows.marked;
  step_count : length l.scratch.arrivals ≡ l.net.frame.step_count;
  steps : l.steps ≡ l.fn.steps + l.link;
}
