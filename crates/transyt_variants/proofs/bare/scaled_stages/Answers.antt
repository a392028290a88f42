-- One stage more.
use Rattle.std.proofs.Common.{ap}
use Rattle.transyt_parts.specs.declared.node.Stage.{Stage}
use Rattle.transyt_parts.specs.Plan.{stage_of, no_stage}
use Rattle.transyt_variants.specs.Cycles.{scaled_stage}
use Rattle.transyt_variants.proofs.StartLaws.{take_more}
use Rattle.transyt_variants.proofs.bare.scaled_stages.Goals as goal

pub loop-stage-preserved : goal.loop-stage-preserved
loop-stage-preserved c =
    let s : Stage = stage_of c.args.here.now.stages.now c.loop-stage.stage-index in
    take_more (scaled_stage c.args.here.now.lengths.before c.args.here.now.lengths.after) c.args.here.now.stages.now c.loop-stage.made.items
    c.push.new.self.items c.loop-stage.stage-index no_stage (record s { change = c.scaled.result }) c.loop-stage-test.true
    c.loop-stage.invariant c.in_ok-push.ensures.items (ap (λ n. record s { change = n }) c.scaled.ensures.value)
