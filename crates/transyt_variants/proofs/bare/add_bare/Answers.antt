-- One node more.
use Rattle.std.proofs.Common.{◌∙◌, ap}
use Rattle.transyt_parts.specs.Parts.{NodeValue}
use Rattle.transyt_variants.specs.Cycles.{bare_plan}
use Rattle.transyt_variants.proofs.StartLaws.{take_more}
use Rattle.transyt_variants.proofs.bare.add_bare.Goals as goal

pub loop-node-preserved : goal.loop-node-preserved
loop-node-preserved c =
    let f : NodeValue → NodeValue = bare_plan c.args.lengths.before c.args.lengths.after in
    take_more f c.args.from.now c.loop-node.nodes.items c.push.new.self.items c.loop-node.node-index c.node-item.result
    c.in_ok-bare_node.field-0 c.loop-node-test.true c.loop-node.invariant c.in_ok-push.ensures.items
    (c.in_ok-bare_node.ensures ∙ ap f c.node-item.is)
