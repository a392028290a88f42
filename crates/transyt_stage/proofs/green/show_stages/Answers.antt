-- The stages, one after another.
use Rattle.transyt_stage.specs.Green.{shows}
use Rattle.transyt_stage.proofs.ShownLaws.{one_more}
use Rattle.transyt_stage.proofs.green.show_stages.Goals as goal

-- the stage at this place adds the steps at which it shows the link
pub loop-place-preserved : goal.loop-place-preserved
loop-place-preserved g c i d below =
    one_more (shows c.args.signals.now.step_count c.args.signals.now.node.now c.args.signals.now.stages.now i) c.loop-place.place _ _ _ _
    (c.loop-place.invariant i d below) (c.show_stage.ensures.shown i d below)
