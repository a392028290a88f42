-- The session, and twins of it.
use Rattle.std.proofs.Common.{replicate, ap, ◌∙◌}
use Rattle.transyt_session.specs.Session.{opened}
use Rattle.transyt_desks.specs.Desks.{desks_of}
use Rattle.transyt_desks.proofs.DeskLaws.{opened_are, opened_is}
use Rattle.transyt_desks.proofs.desks.Desks.open.Goals as goal

pub returns : goal.returns
returns c =
    ap (desks_of c.args.session) c.in-Ok.ensures
    ∙ ap (λ n. desks_of c.args.session (replicate n (opened c.args.session.net))) c.crew_size.ensures
    ∙ opened_is c.args.session c.args.workers c.requires.some

-- none of them is known to be in step
pub invariant_of-result : goal.invariant_of-result
invariant_of-result c =
    opened_are c.args.session c.args.workers _ c.requires.few
    (c.in-Ok.ensures ∙ ap (λ n. replicate n (opened c.args.session.net)) c.crew_size.ensures)
