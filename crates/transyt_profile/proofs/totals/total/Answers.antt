-- How large a total can be.
use Rattle.std.proofs.Common.{sum, ap, arith}
use Rattle.std.proofs.lemmas.List.{take_all}
use Rattle.std.proofs.lemmas.List.Sums.{sum_by-le}
use Rattle.transyt_profile.proofs.totals.total.Goals as goal

-- no sum is above the number of values times their limit
pub returns-clause-bounded : goal.returns-clause-bounded
returns-clause-bounded c = λ limit within.
    omega (
      arith,
      c.loop-value.invariant.so_far,
      ap sum (take_all c.loop-value.value-index c.args.x.now (omega arith)),
      sum_by-le (λ x. x) limit c.args.x.now within,
    )
