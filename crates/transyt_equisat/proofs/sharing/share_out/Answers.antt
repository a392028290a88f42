-- A step more for the stage with the greatest degree.
use Rattle.std.proofs.Common.{ℕ, ◌+◌, get_or, arith}
use Rattle.std.proofs.lemmas.List.Sums.{sum_by-set}
use Rattle.transyt_equisat.proofs.SharingLaws.{best_more, enough_more}
use Rattle.transyt_equisat.proofs.sharing.share_out.Goals as goal

pub loop-turn-preserved : goal.loop-turn-preserved
loop-turn-preserved c =
    let gs = c.loop-turn.greens in
    let p : ℕ = c.busiest-place.result in
    let so_far = c.loop-turn.invariant in
    let inside = c.busiest-place.ensures.inside in
    record {
      enough = enough_more c.args.asked.now gs p c.steps-steps.ensures.asked so_far.enough inside 1;
      fills = omega (arith, sum_by-set (λ n. n) gs p (get_or gs p 0 + 1) 0 (omega (arith, so_far.enough.count, inside)), so_far.fills);
      best = best_more c.args.asked.now gs p c.steps-steps.ensures.asked so_far.enough inside
          c.busiest-place.ensures.greatest so_far.best;
    }
