-- A look is that of the session at the move.
use Rattle.std.proofs.Common.{ap, ◌∙◌}
use Rattle.transyt_moves.specs.Moves.{move}
use Rattle.transyt_session.specs.Session.{lowered, lower_index}
use Rattle.transyt_climb.proofs.climber.look.Goals as goal

pub returns-clause-state : goal.returns-clause-state
returns-clause-state g c =
    c.lower.ensures.state ∙ ap (λ e. lowered e c.args.session.now) (c.move_at-edit.ensures ∙ ap (λ n. move n c.args.place) c.net.ensures)

pub returns-clause-found : goal.returns-clause-found
returns-clause-found g c =
    c.lower.ensures.found ∙ ap (lower_index c.args.session.now.net) (c.move_at-edit.ensures ∙ ap (λ n. move n c.args.place) c.net.ensures)
