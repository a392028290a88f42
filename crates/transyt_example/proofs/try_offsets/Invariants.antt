-- The session stays as it was, and the best so far is no higher than its index.
use Rattle.std.proofs.Common.{◌≡◌, ◌≤◌}
use Rattle.transyt_sweep.specs.Sweeps.{index}
use Rattle.transyt_example.proofs.try_offsets.Given as goal

abbrev pub invariant-loop-number : goal.invariant-loop-number
invariant-loop-number g l = record {
  same : l.session ≡ l.fn.session;
  least : l.best ≤ index l.fn.session.net;
}
