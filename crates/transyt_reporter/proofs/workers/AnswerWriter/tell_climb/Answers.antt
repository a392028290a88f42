-- The climb by the network's plan is that by its budget, and the numbers of the line are those of it.
use Rattle.std.proofs.Common.{length, ◌∙◌, ap, arith}
use Rattle.transyt_sweep.specs.Climb.{Climb}
use Rattle.transyt_sweep.specs.Sweeps.{index}
use Rattle.transyt_track.specs.Due.{work_of}
use Rattle.transyt_session.specs.Session.{SessionValue}
use Rattle.transyt_desks.specs.Desks.{desk_zero}
use Rattle.transyt_io.proofs.PrintLaws.{prints_same}
use Rattle.transyt_reporter.proofs.BriefLaws.{brief_told, whole_climb}
use Rattle.transyt_reporter.proofs.workers.AnswerWriter.tell_climb.Goals as goal

-- the line
pub returns-clause-prints : goal.returns-clause-prints
returns-clause-prints g c =
    let before = c.before_climb-before.ensures in
    let told = c.climb_by_rounds-ended.ensures in
    let at = c.session.ensures in
    let whole = whole_climb (desk_zero c.args.desks.now).net c.net.result.now c.start_climber-climber.result
    c.start_climber-climber.ensures.start (c.net.ensures ∙ ap (λ (s : SessionValue). s.net) c.session-2.ensures) in
    prints_same _ _ c.write.result _ _ c.write.ensures
    (brief_told (desk_zero c.args.desks.now).net _ _ _ _ _ _ _ (told.local ∙ ap (λ (k : Climb). k.local) whole)
    (before.nodes ∙ ap (λ (s : SessionValue). length s.net.nodes) at)
    (before.links ∙ ap (λ (s : SessionValue). length s.net.links) at)
    (before.index ∙ ap (λ (s : SessionValue). index s.net) at)
    (told.took ∙ ap (λ (k : Climb). length k.steps) whole)
    (c.looked.ensures.value ∙ told.looks ∙ ap (λ (k : Climb). length k.looks) whole)
    (c.index.ensures ∙ ap (λ (s : SessionValue). index s.net) (c.session-3.ensures ∙ told.state)
    ∙ ap (λ (k : Climb). index k.net) whole))

-- its steps
pub returns-clause-steps : goal.returns-clause-steps
returns-clause-steps g c one =
    let told = c.climb_by_rounds-ended.ensures in
    let whole = whole_climb (desk_zero c.args.desks.now).net c.net.result.now c.start_climber-climber.result
    c.start_climber-climber.ensures.start (c.net.ensures ∙ ap (λ (s : SessionValue). s.net) c.session-2.ensures) in
    let made = told.steps one in
    let work = ap (λ (s : SessionValue). s.work) told.state in
    let looks = ap (λ (k : Climb). work_of k.looks) whole in
    omega (arith, made, work, looks)
