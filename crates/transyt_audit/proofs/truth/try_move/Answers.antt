-- A move that was made has no fault, and one that was refused has one.
use Rattle.std.proofs.Common.{ap, ◌∙◌}
use Rattle.transyt_sweep.specs.Sweeps.{index}
use Rattle.transyt_audit.proofs.TrueLines.{tried_made, tried_refused}
use Rattle.transyt_audit.proofs.truth.try_move.Goals as goal

pub returns-in_default-clause-tried : goal.returns-in_default-clause-tried
returns-in_default-clause-tried g c =
    tried_refused c.args.net.now c.args.place c.move_at.result c.in_default.field-0 c.move_at.ensures
    c.in_default.ensures.none

pub returns-clause-tried : goal.returns-clause-tried
returns-clause-tried g c =
    tried_made c.args.net.now c.args.place c.move_at.result c.in-Ok.back c.in_ok-found.field-0 c.move_at.ensures
    c.in-Ok.ensures.fault (c.in_ok-found.ensures.value ∙ ap index c.in-Ok.ensures.ok)
