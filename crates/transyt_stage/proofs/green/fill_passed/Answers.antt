-- GO of each step is that of the definition.
use Rattle.std.proofs.Common.{length, arith}
use Rattle.std.proofs.lemmas.List.FromFn.{fill_by_all}
use Rattle.transyt_stage.specs.Green.{passed_at}
use Rattle.transyt_stage.proofs.green.fill_passed.Goals as goal

-- with every step passed, the profile is the definition's
pub returns-clause-value : goal.returns-clause-value
returns-clause-value c =
    fill_by_all (passed_at c.args.shown.now.steps.now c.args.shown.now.start_lag c.args.shown.now.end_lag c.args.room)
    c.loop-i.out (length c.args.out.now) 0 (omega arith) (λ k h. c.loop-i.invariant.passed k (omega arith))
