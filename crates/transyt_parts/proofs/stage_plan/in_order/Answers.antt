-- The sum of the lengths so far has one length more.
use Rattle.std.proofs.Common.{◌≡◌, ℕ, ◌+◌, arith}
use Rattle.std.proofs.lemmas.List.FromFn.{sum_by-map-range_with_len_more}
use Rattle.transyt_parts.specs.Plan.{length_at}
use Rattle.transyt_parts.proofs.stage_plan.in_order.Goals as goal

-- the sum with one length more
pub loop-place-preserved : goal.loop-place-preserved
loop-place-preserved c =
    let p : ℕ = c.loop-place.place in
    let f : ℕ → ℕ = length_at c.args.steps c.args.stages.now in
    let same : 0 + p ≡ p = omega arith in
    let more = sum_by-map-range_with_len_more (λ x. x) f 0 p p same in
    record {
      small = omega (arith, c.length_at.ensures.below, c.ranges.steps.fits);
      so_far = omega (arith, more, c.loop-place.invariant.so_far, c.length_at.ensures.value);
    }
