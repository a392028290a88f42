-- One slot more has the factors of its feed.
use Rattle.std.proofs.Common.{arith}
use Rattle.std.proofs.lemmas.List.Elements.{All-set}
use Rattle.transyt_sweep.specs.Inflow.{AreFactors}
use Rattle.std.proofs.lemmas.Grind.{elements}
use Rattle.transyt_sweep.proofs.feeds.Feeds.renew.Goals as goal

pub slots-preserved : goal.slots-preserved
slots-preserved c =
    let served = c.renew.ensures in
    record {
      are = All-set (AreFactors c.args.self.now.inputs.now.net.now.frame.step_count) c.slots.slots c.slots.i c.renew.new.slot served.are
          c.slots.invariant.are;
      each = λ k d below. grind (arith, elements, c.slots.invariant.each k d);
    }
