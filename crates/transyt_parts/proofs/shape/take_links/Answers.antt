-- The links that are taken are those of the other list, place by place.
use Rattle.std.proofs.Common.{sym, ap, ◌∙◌, arith}
use Rattle.transyt_parts.specs.Made.{bare_link}
use Rattle.transyt_parts.proofs.CopyLaws.{same_lists, same_length, same_at, shape_more, agree_more}
use Rattle.transyt_parts.proofs.shape.take_links.Goals as goal

-- the two links at a place have one shape
pub take_link-requires : goal.take_link-requires
take_link-requires c =
    ap bare_link (sym c.index-links-place.is)
    ∙ same_at bare_link c.loop-place.links c.args.from.now c.loop-place.place _ _ c.loop-place.invariant.alike
    c.loop-place-test.true c.index-links-place.is c.index-from-place.is

-- one link more is taken, and the shape is kept
pub loop-place-preserved : goal.loop-place-preserved
loop-place-preserved c = record {
  done = agree_more bare_link c.loop-place.links c.args.from.now c.loop-place.place _ _ c.loop-place.invariant.alike
      c.loop-place-test.true c.loop-place.invariant.done c.take_link.ensures c.index-from-place.is;
  alike = shape_more bare_link c.loop-place.links c.args.from.now c.loop-place.place _ _ c.loop-place.invariant.alike
      c.take_link.ensures c.index-from-place.is;
}

-- all links are taken
pub returns : goal.returns
returns c =
    same_lists c.loop-place.links c.args.from.now (same_length bare_link _ _ c.loop-place.invariant.alike)
    (λ k d less. c.loop-place.invariant.done k d (omega (arith, less)))
