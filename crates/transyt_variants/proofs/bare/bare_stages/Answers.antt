-- The scaled stages can be laid one after another.
use Rattle.std.proofs.Common.{◌∙◌, ◌≡◌, ◌<◌, ◌≤◌, sym, subst, All, List, map, length, ap, arith}
use Rattle.std.proofs.lemmas.List.{length-map}
use Rattle.transyt_parts.specs.declared.node.Stage.{Stage}
use Rattle.transyt_parts.specs.Plan.{stage_of}
use Rattle.transyt_variants.specs.Cycles.{scaled_stage, filled_greens}
use Rattle.transyt_variants.proofs.BareLaws.{bare_fits, scaled_first, scaled_gaps}
use Rattle.transyt_variants.proofs.bare.bare_stages.Goals as goal

pub invariant_of-fitting : goal.invariant_of-fitting
invariant_of-fitting c =
    let h = c.args.here.now in
    let before = h.lengths.before in
    let after = h.lengths.after in
    let ss : List Stage = h.stages.now in
    let is : c.deref.result.now ≡ map (scaled_stage before after) ss = c.deref.ensures.value ∙ c.in_ok-scaled.ensures in
    let greens : c.deref-2.result.now ≡ filled_greens after ss = c.deref-2.ensures.value ∙ c.in_ok-greens.ensures.value in
    let count : length c.deref.result.now ≡ length ss = ap length is ∙ length-map ss (scaled_stage before after) in
    record {
      steps_some = h.lengths.after_some;
      steps_most = h.lengths.after_most;
      some = omega (arith, count, h.some);
      first = subst (λ (ss : List Stage). (stage_of ss 0).change < after) (sym is)
          (scaled_first before after ss h.some h.each h.lengths.after_some);
      count = ap length greens ∙ (bare_fits before after ss h.some h.room).count ∙ sym (ap length is);
      gaps = subst (λ (ss : List Stage). All (λ s. s.intergreen ≤ 120) ss) (sym is)
          (scaled_gaps before after ss h.lengths.before_most h.each);
      small = rw c.deref-2.ensures.value c.in_ok-greens.ensures.small;
    }
