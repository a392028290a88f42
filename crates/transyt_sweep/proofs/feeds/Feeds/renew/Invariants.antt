-- The slots so far have the factors of their feeds, and all are right.
use Rattle.std.proofs.Common.{ℕ, ◌<◌, get_or, All}
use Rattle.transyt_sweep.specs.declared.factors.Factors.{Factors}
use Rattle.transyt_sweep.specs.Inflow.{AreFactors, Served, no_feed}
use Rattle.transyt_sweep.proofs.feeds.Feeds.renew.Given as goal

abbrev pub invariant-slots : goal.invariant-slots
invariant-slots l = record {
  are : All (AreFactors l.self.inputs.now.net.now.frame.step_count) l.slots;
  each : (k : ℕ) (d : Factors) → k < l.i → Served l.self.inputs.now.net.now (get_or l.self.list.now k no_feed) (get_or l.slots k d);
}
