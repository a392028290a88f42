-- One node more.
use Rattle.transyt_equisat.proofs.AskedLaws.{range_more}
use Rattle.transyt_variants.specs.Cycles.{balanced_node}
use Rattle.transyt_variants.proofs.cycles.add_balanced.Goals as goal

pub loop-place-preserved : goal.loop-place-preserved
loop-place-preserved c =
    range_more (balanced_node c.args.net.now) c.loop-place.nodes.items c.push.new.self.items c.loop-place.place
    c.in_ok-balanced_node.field-0 c.loop-place.invariant c.in_ok-push.ensures.items c.in_ok-balanced_node.ensures
