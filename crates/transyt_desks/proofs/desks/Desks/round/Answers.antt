-- Desks that stand for one network are alike after the turns at desk 0.
use Rattle.std.proofs.Common.{◌≡◌, ◌*◌, length, sym, ◌∙◌, arith}
use Rattle.transyt_desks.proofs.desks.Desks.round.Goals as goal

pub returns-then-count-eq1-clause-made : goal.returns-then-count-eq1-clause-made
returns-then-count-eq1-clause-made g c = rw (sym c.count.ensures ∙ c.if-count-eq1.true) c.turn_at_zero.ensures.made.made

pub returns-clause-made : goal.returns-clause-made
returns-clause-made g c =
    let one : length c.args.self.now ≡ c.count-2.result.number * 1 = omega (arith, c.count-2.ensures) in
    rw (one, c.follow_all.ensures.zero) c.together-round.ensures.made
