-- The two parts of the cycle are the steps of the span.
use Rattle.std.proofs.Common.{refl, arith}
use Rattle.std.proofs.lemmas.Bool.Decides.{nat_tests}
use Rattle.transyt_stage.proofs.ShownLaws.{between_round}
use Rattle.transyt_stage.proofs.green.show_steps.Goals as goal

-- a step has the value by the second part, else by the first
pub returns-clause-shown : goal.returns-clause-shown
returns-clause-shown g c i other below =
    let span = c.args.span.now in
    grind (
      arith,
      nat_tests,
      between_round span.step_count i span.change span.from span.to _ below span.from_most span.to_most refl,
      c.fill_steps.ensures.filled i other (omega arith),
      c.fill_steps-2.ensures.filled i other (omega arith),
    )
