-- The two turns write the dispersed profile.
use Rattle.std.proofs.Common.{◌-◌, ◌^◌, length, ◌∙◌, arith}
use Rattle.std.proofs.Math.Nat.{div-le_of_le-mul}
use Rattle.transyt_profile.proofs.Mixing.{dispersed_uniform, placed_all, placed_by_step, dispersed_small}
use Rattle.transyt_profile.proofs.dispersion.disperse.Goals as goal

-- the mean of the profile is within its bound
pub invariant_of-journey-clause-mean_fits : goal.invariant_of-journey-clause-mean_fits
invariant_of-journey-clause-mean_fits c =
    let whole = c.total-total.ensures.bounded (2 ^ 44 - 1) (λ k d h. omega (arith, c.requires.fit k d h)) in
    let mean = div-le_of_le-mul (length c.args.x.now) whole in omega arith

-- so each step has the value of the definition
pub returns-clause-value : goal.returns-clause-value
returns-clause-value c =
    placed_all c.args.x.now c.go_round.new.out c.args.t c.args.percent c.requires.steps (omega arith) c.go_round.ensures

-- in the rule's own order
pub returns-clause-by_step : goal.returns-clause-by_step
returns-clause-by_step c = λ j low high.
    placed_by_step c.args.x.now c.go_round.new.out c.args.t c.args.percent j c.go_round.ensures low high

-- a mean is within the bound of its values
pub returns-clause-small : goal.returns-clause-small
returns-clause-small c =
    rw (returns-clause-value c)
    (dispersed_small c.args.x.now c.args.t c.args.percent (2 ^ 44) c.requires.steps c.requires.fit)

-- and the mean of equals is the same
pub returns-clause-uniform : goal.returns-clause-uniform
returns-clause-uniform c = λ v same.
    returns-clause-value c ∙ dispersed_uniform c.args.x.now c.args.t c.args.percent v c.requires.steps same
