-- One node more.
use Rattle.std.proofs.Common.{◌+◌, ◌<◌, List, length, ap, ◌∙◌, arith, subst}
use Rattle.transyt_parts.specs.declared.frame.Frame.{Frame}
use Rattle.transyt_parts.specs.Parts.{NodeValue}
use Rattle.transyt_make.specs.Draws.{DrawsValue, draw}
use Rattle.transyt_make.proofs.NodeLaws.{one_further, drawn_at}
use Rattle.transyt_variants.proofs.StartLaws.{node_drawn}
use Rattle.transyt_variants.proofs.starts.add_nodes.Goals as goal

pub loop-place-preserved : goal.loop-place-preserved
loop-place-preserved c =
    let place = c.loop-place.place in
    let at = c.args.draws.now in
    let so_far = c.loop-place.invariant.draws in
    let drew =
    drawn_at c.loop-place.draws at.seed (at.taken + place) c.frame.result.step_count _ (ap (λ (d : DrawsValue). d.seed) so_far)
    (ap (λ (d : DrawsValue). d.taken) so_far) c.draw-offset.ensures.value
    ∙ ap (λ (f : Frame). draw at.seed (at.taken + place) f.step_count) c.frame.ensures.value in
    let inside : place < length c.args.net.now.nodes =
    subst (λ (ns : List NodeValue). place < length ns) c.nodes-place-end.ensures.value c.loop-place-test.true in
    record {
      draws = one_further at _ _ place (place + 1) so_far c.draw-offset.ensures.taken (omega arith);
      made = node_drawn c.args.net.now at.seed at.taken place _ _ c.nodes.result.now c.index-nodes-place.result
          c.in_ok-with_offset.field-0 c.draw-offset.result inside c.nodes.ensures.value c.index-nodes-place.is
          c.in_ok-with_offset.ensures drew c.loop-place.invariant.made c.in_ok-push.ensures.items;
      within = omega (arith, inside);
    }
