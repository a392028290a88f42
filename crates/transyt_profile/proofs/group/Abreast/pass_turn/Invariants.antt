-- After so many rounds four times as many steps, and then one more in each.
use Rattle.std.proofs.Common.{◌*◌}
use Rattle.transyt_profile.specs.Passing.{HavePassed}
use Rattle.transyt_profile.proofs.group.Abreast.pass_turn.Given as goal

abbrev pub invariant-loop-four : goal.invariant-loop-four
invariant-loop-four g l = HavePassed l.self.ready.platoons.now (4 * l.four) l.goings

abbrev pub invariant-loop-step : goal.invariant-loop-step
invariant-loop-step g l = HavePassed l.self.ready.platoons.now l.step l.goings
