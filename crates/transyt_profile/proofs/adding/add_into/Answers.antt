-- The sum of two profiles, and how large its values can be.
use Rattle.std.proofs.Common.{◌-◌, ◌^◌, length, arith}
use Rattle.std.proofs.lemmas.Grind.{elements}
use Rattle.std.proofs.lemmas.List.FromFn.{fill_by_all}
use Rattle.transyt_profile.specs.Profile.{added_at}
use Rattle.transyt_profile.proofs.adding.add_into.Goals as goal

-- with every step passed, the profile is the definition's
pub returns-clause-value : goal.returns-clause-value
returns-clause-value c =
    fill_by_all (added_at c.args.out.now c.args.x.now) c.loop-i.out (length c.args.out.now) 0 (omega arith)
    (λ k h. c.loop-i.invariant.summed k (omega arith))

-- a limit on what stood goes up by the limit on what is added
pub returns-clause-grows : goal.returns-clause-grows
returns-clause-grows c = λ limit within. grind (arith, elements, within)

-- so each step is below the sum of both limits
pub returns-clause-small : goal.returns-clause-small
returns-clause-small c = returns-clause-grows c (2 ^ 48 - 2 ^ 44) c.requires.out_fit
