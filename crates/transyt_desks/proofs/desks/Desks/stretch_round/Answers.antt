-- Desk 0 goes on alone, or the desks try, which are several then.
use Rattle.std.proofs.Common.{length, sym}
use Rattle.transyt_desks.proofs.RoundLaws.{places_alone, places_together}
use Rattle.transyt_desks.proofs.desks.Desks.stretch_round.Goals as goal

pub returns-then-goes_alone-clause-made : goal.returns-then-goes_alone-clause-made
returns-then-goes_alone-clause-made g c =
    rw (sym (places_alone (length c.args.self.now) c.count.result.number c.args.climber.now c.goes_alone.result c.count.ensures
    c.goes_alone.ensures.value c.if-goes_alone.true)) c.turn_at_zero.ensures.made.made

pub returns-clause-made : goal.returns-clause-made
returns-clause-made g c =
    rw (sym (places_together (length c.args.self.now) c.count.result.number c.args.climber.now c.goes_alone.result
    c.count.ensures c.goes_alone.ensures.value c.count-2.result.number c.split-split.result.desks.number c.split-split.result.each
    c.if-goes_alone.false c.count-2.ensures c.split-split.ensures.desks c.split-split.ensures.each)) c.together.ensures.made
