-- The test decides the fact.
use Rattle.std.proofs.lemmas.Bool.Decides.{Decides-at}
use Rattle.transyt_stage.specs.Green.{is_green}
use Rattle.transyt_stage.proofs.GreenLaws.{Decides-is_green}
use Rattle.transyt_stage.proofs.green.is_green.Goals as goal

pub returns-clause-by_stage : goal.returns-clause-by_stage
returns-clause-by_stage c =
    Decides-at c.test_green.result (is_green c.args.net.now c.args.link c.args.step) c.test_green.ensures
    (Decides-is_green c.args.net.now c.args.link c.args.step c.requires.step)
