-- One node more is copied.
use Rattle.transyt_parts.proofs.CopyLaws.{copied_more}
use Rattle.transyt_parts.proofs.copy.add_nodes.Goals as goal

pub loop-node-preserved : goal.loop-node-preserved
loop-node-preserved c =
    copied_more c.args.nodes.now c.loop-node.copy.items c.push.new.self.items c.loop-node.node-index c.node-item.result
    c.in_ok-copy_node.field-0 c.loop-node-test.true c.loop-node.invariant c.in_ok-push.ensures.items c.in_ok-copy_node.ensures
    c.node-item.is
