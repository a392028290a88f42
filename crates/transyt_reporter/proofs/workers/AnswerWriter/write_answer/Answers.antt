-- A certificate, a climb, and an answer that is no more than its text.
use Rattle.std.proofs.Common.{ap}
use Rattle.transyt_session.specs.Session.{SessionValue}
use Rattle.transyt_io.proofs.PrintLaws.{prints_same}
use Rattle.transyt_line_answers.specs.Commands.{answer_text}
use Rattle.transyt_reporter.proofs.ToldLaws.{told_by, told_leaves}
use Rattle.transyt_reporter.proofs.workers.AnswerWriter.write_answer.Goals as goal

-- a certificate and a climb begin where no trial is open
pub certify-requires-clause-idle : goal.certify-requires-clause-idle
certify-requires-clause-idle g c κs within =
    let of = rw c.in-Cert.is at c.requires.of in record { ready = c.requires.ready; closed = of.1; room = c.requires.room }

pub climb-requires-clause-idle : goal.climb-requires-clause-idle
climb-requires-clause-idle g c κs within =
    let of = rw c.in-Climb.is at c.requires.of in record { ready = c.requires.ready; closed = of.1; room = c.requires.room }

-- the desks and the steps of a certificate
pub returns-in-Cert-clause-leaves : goal.returns-in-Cert-clause-leaves
returns-in-Cert-clause-leaves g c = rw c.in-Cert.is c.certify.ensures.leaves

-- the desks and the steps of a climb
pub returns-in-Climb-clause-leaves : goal.returns-in-Climb-clause-leaves
returns-in-Climb-clause-leaves g c = rw c.in-Climb.is c.climb.ensures.leaves

-- any other answer is no more than its text
pub write_text-requires-clause-told : goal.write_text-requires-clause-told
write_text-requires-clause-told g c = told_by c.args.answer.now c.in_default.not-Climb c.in_default.not-Cert

pub returns-in_default-clause-leaves : goal.returns-in_default-clause-leaves
returns-in_default-clause-leaves g c =
    told_leaves c.args.answer.now c.args.desks.now c.args.steps.now
    (told_by c.args.answer.now c.in_default.not-Climb c.in_default.not-Cert) c.requires.ready

pub returns-in_default-clause-prints : goal.returns-in_default-clause-prints
returns-in_default-clause-prints g c =
    prints_same _ _ c.write_text.result _ _ c.write_text.ensures
    (ap (λ (s : SessionValue). answer_text s c.args.answer.now) c.session.ensures)
