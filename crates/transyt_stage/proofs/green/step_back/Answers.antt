-- A step back within the cycle, or round it.
use Rattle.std.proofs.Common.{sym, ap, ◌∙◌, length}
use Rattle.transyt_cycle.specs.Cycle.{minus_mod}
use Rattle.transyt_stage.proofs.StepLaws.{back_within, back_round}
use Rattle.transyt_stage.proofs.green.step_back.Goals.{then-steps-at, else-steps-at+then-steps-step_count}
use Rattle.transyt_stage.proofs.green.step_back.Goals.{else-steps-at+else-steps-step_count}
use Rattle.transyt_stage.proofs.green.step_back.Goals as goal

pub returns-clause-step : goal.returns-clause-step
returns-clause-step c =
    let at = c.args.at.now in
    let steps = length at.shown.steps.now in
    elim c.if-steps-at.branch [
      | then-steps-at w ↦ w.step-is ∙ sym (back_within steps at.step c.args.back at.within w.if-steps-at.true)
      | else-steps-at+then-steps-step_count w ↦
          w.step-is
          ∙ sym (back_round steps at.step c.args.back at.within w.if-steps-at.false w.if-steps-step_count.true)
      | else-steps-at+else-steps-step_count w ↦
          w.step-is ∙ w.minus_mod.ensures.value ∙ ap (minus_mod steps at.step) w.from.ensures
    ]
