-- GO of each step is that of the definition.
use Rattle.std.proofs.Common.{length, arith}
use Rattle.std.proofs.lemmas.List.FromFn.{fill_by_all}
use Rattle.transyt_stage.specs.Green.{yielded_at}
use Rattle.transyt_stage.proofs.giving_way.give_way.Goals as goal

-- with every step passed, the profile is the definition's
pub returns-clause-value : goal.returns-clause-value
returns-clause-value c =
    fill_by_all (yielded_at c.args.percent c.args.other_out.now c.args.go.now) c.loop-i.go (length c.args.go.now) 0
    (omega arith) (λ k h. c.loop-i.invariant.yielded k (omega arith))
