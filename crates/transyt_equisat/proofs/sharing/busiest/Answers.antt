-- The busier of two is busier than all before.
use Rattle.std.proofs.Common.{◌≡◌, false, below_more}
use Rattle.transyt_equisat.specs.Degrees.{is_above}
use Rattle.transyt_equisat.specs.Sharing.{degree_at}
use Rattle.transyt_equisat.proofs.FractionLaws.{not_above-trans}
use Rattle.transyt_equisat.proofs.SharingLaws.{degree_base}
use Rattle.transyt_equisat.proofs.sharing.busiest.Goals as goal

pub loop-place-preserved : goal.loop-place-preserved
loop-place-preserved c =
    let so_far = c.loop-place.invariant in
    let degree = degree_at c.args.here.now.asked.now c.args.here.now.greens.now in
    let next = c.busier-best.ensures in
    let base = degree_base c.args.here.now.asked.now c.args.here.now.greens.now c.loop-place.best c.stages-place-end.ensures.asked
    c.requires so_far.inside in
    record {
      inside = next.inside;
      greatest = below_more (λ k. is_above (degree k) (degree c.busier-best.result) ≡ false) c.loop-place.place
          (λ k below. not_above-trans (degree k) (degree c.loop-place.best) (degree c.busier-best.result) base
          (so_far.greatest k below) next.over_a) next.over_b;
    }
