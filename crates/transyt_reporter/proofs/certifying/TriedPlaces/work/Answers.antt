-- The work of one try more.
use Rattle.std.proofs.Common.{◌<◌, length, ◌∙◌, arith}
use Rattle.transyt_reporter.proofs.CertifyLaws.{try_is, work_next}
use Rattle.transyt_reporter.proofs.certifying.TriedPlaces.work.Goals as goal

pub loop-number-preserved : goal.loop-number-preserved
loop-number-preserved c =
    let so = c.loop-number.invariant in
    let k = c.loop-number.number in
    let tried = c.args.self.now in
    let net = tried.session.now.net in
    let inside : k < length tried.tries.now = omega (arith, c.loop-number-test.true) in
    let is = c.work_of-work.ensures ∙ try_is net tried.from _ tried.tries.now k _ tried.tried inside in
    let few = tried.tried.few k inside in
    let next = work_next net tried.from k in
    record { value = omega (arith, so.value, is, next); few = omega (arith, so.few, is, few) }
