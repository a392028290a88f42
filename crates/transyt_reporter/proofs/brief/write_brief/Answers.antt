-- Desks that were opened are idle.
use Rattle.std.proofs.Common.{List, sym, subst}
use Rattle.transyt_session.specs.Session.{SessionValue}
use Rattle.transyt_reporter.specs.Conditions.{AreIdle}
use Rattle.transyt_reporter.proofs.ReadyLaws.{idle_opened}
use Rattle.transyt_reporter.proofs.brief.write_brief.Goals as goal

-- of the session that was opened
pub tell_climb-told-requires-clause-idle : goal.tell_climb-told-requires-clause-idle
tell_climb-told-requires-clause-idle g c κs within =
    let P : List SessionValue → Type 0 = λ desks. AreIdle desks in
    subst P (sym c.in-Ok.ensures.value) (idle_opened c.args.net c.args.workers.count)
