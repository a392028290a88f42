-- The nodes that are taken are those of the other list, place by place.
use Rattle.std.proofs.Common.{sym, ap, ◌∙◌, arith}
use Rattle.transyt_parts.specs.Made.{bare_node}
use Rattle.transyt_parts.proofs.CopyLaws.{same_lists, same_length, same_at, shape_more, agree_more}
use Rattle.transyt_parts.proofs.shape.take_nodes.Goals as goal

-- the two nodes at a place have one shape
pub take_node-requires : goal.take_node-requires
take_node-requires c =
    ap bare_node (sym c.index-nodes-place.is)
    ∙ same_at bare_node c.loop-place.nodes c.args.from.now c.loop-place.place _ _ c.loop-place.invariant.alike
    c.loop-place-test.true c.index-nodes-place.is c.index-from-place.is

-- one node more is taken, and the shape is kept
pub loop-place-preserved : goal.loop-place-preserved
loop-place-preserved c = record {
  done = agree_more bare_node c.loop-place.nodes c.args.from.now c.loop-place.place _ _ c.loop-place.invariant.alike
      c.loop-place-test.true c.loop-place.invariant.done c.take_node.ensures c.index-from-place.is;
  alike = shape_more bare_node c.loop-place.nodes c.args.from.now c.loop-place.place _ _ c.loop-place.invariant.alike
      c.take_node.ensures c.index-from-place.is;
}

-- all nodes are taken
pub returns : goal.returns
returns c =
    same_lists c.loop-place.nodes c.args.from.now (same_length bare_node _ _ c.loop-place.invariant.alike)
    (λ k d less. c.loop-place.invariant.done k d (omega (arith, less)))
