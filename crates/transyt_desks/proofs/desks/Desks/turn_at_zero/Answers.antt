-- The climb ends, or one turn of it is a round.
use Rattle.std.proofs.Common.{refl, subst, arith}
use Rattle.transyt_climb.specs.Turns.{machine}
use Rattle.transyt_desks.specs.declared.turns.Round.{Round}
use Rattle.transyt_desks.specs.Desks.{desk_zero, desks_of, sessions_of}
use Rattle.transyt_desks.specs.Rounds.{MakesRound, RoundsDesks}
use Rattle.transyt_desks.proofs.RoundLaws.{makes_turn, rounds_end, rounds_lent, turns_one}
use Rattle.transyt_desks.proofs.ShapeLaws.{shape_round}
use Rattle.transyt_desks.proofs.desks.Desks.turn_at_zero.Goals as goal

pub returns-in-Some-clause-made : goal.returns-in-Some-clause-made
returns-in-Some-clause-made g c =
    rounds_end 1 c.args.climber.now c.args.self.now c.in-Some.last c.requires.ready
    (c.end_of.ensures.answer c.in-Some.last (desk_zero c.args.self.now) c.in-Some.is)
    (c.end_of.ensures.end c.in-Some.last c.in-Some.is)

pub returns-clause-made : goal.returns-clause-made
returns-clause-made g c =
    let before = c.args.climber.now in
    let after = c.turn-last.new.self in
    let zero = c.self.inside.zero in
    let session = c.turn-last.new.session in
    let desks = desks_of zero (sessions_of c.self.inside.crew.items) in
    let told = c.turn-last.ensures in
    let result : Round = record { turns = 1; last = c.turn-last.result } in
    let made : MakesRound 1 (machine before zero) (machine after session) result =
    makes_turn 1 (machine before zero) (machine after session) c.turn-last.result
    (turns_one (machine before zero) (c.end_of.ensures.since c.in_default.is) (c.end_of.ensures.looked c.in_default.is))
    told.answer told.state told.kept told.closed told.few in
    subst (λ ds. RoundsDesks 1 before ds after (desks_of session (sessions_of c.self.inside.crew.items)) result) c.self.view_is
    (rounds_lent 1 before after desks desks session result (omega arith) refl (λ alike. alike)
    (shape_round (machine before zero) (machine after session) 1 c.turn-last.result made.round) made)
