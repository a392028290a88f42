-- The sweeps, one after another.
use Rattle.std.proofs.Common.{◌≡◌, ◌+◌, ◌-◌, ◌*◌, None, length}
use Rattle.transyt_sweep.specs.Front.{AreFilled}
use Rattle.transyt_sweep.proofs.whole.full.Given as goal

-- those so far are worked out, in a step for each link of each
abbrev pub invariant-loop-sweep : goal.invariant-loop-sweep
invariant-loop-sweep g l = record {
  filled : AreFilled l.net l.sweep 0 l.rows.now;
  unmarked : l.rows.marked ≡ None;
  step_count : length l.scratch.arrivals ≡ l.net.frame.step_count;
  steps : l.steps ≡ l.fn.steps + (l.sweep - 1) * length l.net.links;
}
