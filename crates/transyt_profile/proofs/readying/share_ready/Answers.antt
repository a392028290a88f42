-- One step more, and the sum of all.
use Rattle.std.proofs.Common.{below_more, ◌*◌, ◌∙◌, ap, arith}
use Rattle.std.proofs.lemmas.List.Sums.{sum_by_more}
use Rattle.transyt_profile.specs.Profile.{share_of}
use Rattle.transyt_profile.proofs.Parts.{start_fits}
use Rattle.transyt_profile.proofs.ReadyLaws.{lane_all, lane_more, others_more, reached_more, all_shared, any_shared, sum_shared}
use Rattle.transyt_profile.proofs.readying.share_ready.Goals as goal

-- one step more
pub loop-i-preserved : goal.loop-i-preserved
loop-i-preserved c =
    let share = share_of c.args.lane.now.platoon.now.part.now.part c.args.lane.now.platoon.now.part.now.whole in
    let is = c.share_step-share.ensures.value in
    record {
      most = below_more _ _ (λ k below. omega (arith, c.loop-i.invariant.most k below)) (omega (arith, is));
      reached = reached_more _ _ _ _ _ (omega arith) is c.loop-i.invariant.reached;
      greatest = omega (arith, c.loop-i.invariant.greatest, c.share_step-share.ensures.small);
      ready = lane_more _ _ _ _ _ _ (omega (arith, c.requires, c.args.lane.now.within)) c.loop-i.invariant.ready
          (λ small. c.times.ensures (start_fits c.args.lane.now.platoon.now.travel.now _ (omega (arith, small, is))) ∙ ap (λ v. v * c.args.lane.now.platoon.now.travel.now.starting_factor) is);
      others = others_more _ _ _ _ _ c.args.lane.now.within c.loop-i.invariant.others;
      so_far = omega (arith, is, c.loop-i.invariant.so_far, sum_by_more share c.args.lane.now.platoon.now.leaving.now c.loop-i.i 0 (omega arith));
      total = omega (arith, c.loop-i.invariant.total, c.share_step-share.ensures.small);
    }

-- each share is below the limit
pub returns-then-greatest-limit-clause-below : goal.returns-then-greatest-limit-clause-below
returns-then-greatest-limit-clause-below c =
    all_shared _ _ _ _ (λ k below. omega (arith, c.loop-i.invariant.most k (omega arith)))

-- so each is ready
pub returns-then-greatest-limit-clause-ready : goal.returns-then-greatest-limit-clause-ready
returns-then-greatest-limit-clause-ready c =
    lane_all _ _ _ _ _ _ _ (omega arith) c.loop-i.invariant.ready
    (λ k below.
    omega (arith, c.loop-i.invariant.most k (omega arith), c.args.lane.now.platoon.now.travel.now.limit_fits))

-- the sum over all steps
pub returns-then-greatest-limit-clause-total : goal.returns-then-greatest-limit-clause-total
returns-then-greatest-limit-clause-total c = c.loop-i.invariant.so_far ∙ sum_shared _ _ c.loop-i.i c.args.lane.now.platoon.now.leaving.now (omega arith)

-- where the greatest is not below the limit, a share is not
pub returns-else-greatest-limit-clause-none : goal.returns-else-greatest-limit-clause-none
returns-else-greatest-limit-clause-none c =
    any_shared _ _ c.loop-i.i c.loop-i.greatest _ c.args.lane.now.platoon.now.leaving.now c.args.lane.now.platoon.now.some (omega arith) c.loop-i.invariant.reached (omega arith)

-- the other lanes stay in both attempts
pub returns-then-greatest-limit-clause-others : goal.returns-then-greatest-limit-clause-others
returns-then-greatest-limit-clause-others c = λ k m small other. grind (arith, c.loop-i.invariant.others k m small other)

pub returns-else-greatest-limit-clause-others : goal.returns-else-greatest-limit-clause-others
returns-else-greatest-limit-clause-others c = λ k m small other. grind (arith, c.loop-i.invariant.others k m small other)
