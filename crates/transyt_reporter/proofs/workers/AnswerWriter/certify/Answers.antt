-- The lines of a batch more are written, or broke off; and then the last line.
use Rattle.std.proofs.Common.{refl, ap, ◌∙◌, arith}
use Rattle.transyt_moves.specs.Moves.{move_count}
use Rattle.transyt_session.specs.Session.{SessionValue}
use Rattle.transyt_io.proofs.LoopLaws.{printed_nothing}
use Rattle.transyt_reporter.proofs.CertifyLaws.{batch_printed, batch_broken, lines_ended}
use Rattle.transyt_reporter.proofs.CertifyLaws.{certified_none, certified_more, certified_state, certified_leaves}
use Rattle.transyt_reporter.proofs.workers.AnswerWriter.certify.Goals as goal

-- no line is written yet
pub loop-from-init : goal.loop-from-init
loop-from-init g c =
    let places = c.move_count-places.ensures in
    let all = places.count ∙ ap move_count (c.net.ensures ∙ ap (λ (s : SessionValue). s.net) c.session.ensures) in record {
      printed = printed_nothing _ _;
      certified = certified_none c.args.desks.now _ c.requires.idle.ready.alike all places.most;
      workers = refl;
    }

-- the lines of a batch are written
pub loop-from-preserved : goal.loop-from-preserved
loop-from-preserved g c =
    let so = c.loop-from.invariant in
    let count = c.min-count.result in
    let told = c.in_ok-more.ensures in
    let said = c.remark_certified.ensures in record {
      printed = batch_printed so.certified count so.printed told.prints said.written said.faults;
      certified = certified_more so.certified count _ (omega arith) told.state told.few told.alike told.workers told.steps;
      workers = told.writer ∙ so.workers;
    }

-- or broke off
pub returns-in_err-more-clause-prints : goal.returns-in_err-more-clause-prints
returns-in_err-more-clause-prints g c =
    let so = c.loop-from.invariant in
    batch_broken so.certified _ (tt {0}) c.min-count.result c.from_residual.ensures.0 (omega arith) so.printed
    c.in_err-more.ensures.prints

-- the desks then
pub returns-in_err-more-clause-leaves : goal.returns-in_err-more-clause-leaves
returns-in_err-more-clause-leaves g c =
    let so = c.loop-from.invariant in
    let told = c.in_err-more.ensures in
    certified_leaves
    (certified_more so.certified c.min-count.result _ (omega arith) told.state told.few told.alike told.workers told.steps)
    c.requires.idle

-- all lines are written, and then the last, or it broke off
pub returns-clause-prints : goal.returns-clause-prints
returns-clause-prints g c =
    let so = c.loop-from.invariant in
    lines_ended so.certified c.write_cert_end.result (tt {0}) c.session-2.ensures (omega (arith, so.certified.inside))
    so.printed c.write_cert_end.ensures

-- desk 0 is the session after CERT
pub returns-clause-state : goal.returns-clause-state
returns-clause-state g c =
    let so = c.loop-from.invariant in
    certified_state so.certified c.write_cert_end.result (omega (arith, so.certified.inside))

-- the desks and the steps
pub returns-clause-leaves : goal.returns-clause-leaves
returns-clause-leaves g c = certified_leaves c.loop-from.invariant.certified c.requires.idle
