-- The product is the mean, and it fits.
use Rattle.std.proofs.Common.{arith}
use Rattle.transyt_profile.proofs.Parts.{mixed_by}
use Rattle.transyt_profile.proofs.Mixing.{mixed_below}
use Rattle.transyt_profile.proofs.Turns.{sent_fits, step_fits}
use Rattle.transyt_profile.proofs.passing.Passing.mix.Goals as goal

-- the quotient by 2^40 fits
pub overflow_mul-result : goal.overflow_mul-result
overflow_mul-result c =
    let s = c.args.start.now in
    let is = c.requires in
    omega (arith, step_fits s.platoon.now s.step _ _ is.fits s.within is.factor is.small)

pub overflow_add-result : goal.overflow_add-result
overflow_add-result c =
    let s = c.args.start.now in
    let is = c.requires in
    omega (arith, s.is_product, step_fits s.platoon.now s.step _ _ is.fits s.within is.factor is.small)

-- by the law of the reciprocal
pub returns-clause-value : goal.returns-clause-value
returns-clause-value c =
    let s = c.args.start.now in
    let travel = s.platoon.now.travel.now in
    let is = c.requires in
    rw (s.is_product, is.factor, travel.is_starting, travel.is_before)
    (mixed_by travel.weight travel.reciprocal _ c.args.self.now.value travel.limit 1099511627776 travel.least travel.close
    travel.room (sent_fits s.platoon.now s.step is.fits s.within) is.small)

-- a mean of numbers below a limit
pub returns-clause-small : goal.returns-clause-small
returns-clause-small c =
    let s = c.args.start.now in
    let fits = sent_fits s.platoon.now s.step c.requires.fits s.within in
    rw (returns-clause-value c) (mixed_below _ _ _ _ fits c.requires.small)
