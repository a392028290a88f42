-- The stages of a node that has a bare plan fit into the new cycle.
use Rattle.std.proofs.Common.{◌≡◌, ◌∙◌, ap, length, arith}
use Rattle.transyt_parts.specs.Parts.{NodeValue}
use Rattle.transyt_variants.proofs.bare.bare_node.Goals as goal

pub invariant_of-here : goal.invariant_of-here
invariant_of-here c =
    let is : c.deref.result.now ≡ c.args.node.now.stages =
    c.deref.ensures.value ∙ ap (λ (n : NodeValue). n.stages) c.node.view_is in
    record {
      some = omega (arith, ap length is, c.requires.two);
      few = omega (arith, ap length is, c.requires.node.stage_count);
      each = rw is c.requires.node.stages;
      room = rw is c.requires.room;
    }
