-- A command is judged, and then its answer is written.
use Rattle.transyt_reporter.proofs.JudgedLaws.{ends_said, leaves_said, of_said, ready_said, state_said, text_said}
use Rattle.transyt_reporter.proofs.workers.AnswerWriter.answer_command.Goals as goal

-- the desks are ready when desk 0 has judged the line
pub write_answer-requires-clause-ready : goal.write_answer-requires-clause-ready
write_answer-requires-clause-ready g c κs within =
    let judged = c.judge-answer.ensures in
    ready_said c.args.command.now c.requires.ready c.session_mut.ensures.value judged.state judged.answer

-- the text is over the session before
pub returns-in-Ok-clause-prints : goal.returns-in-Ok-clause-prints
returns-in-Ok-clause-prints g c =
    let judged = c.judge-answer.ensures in
    let told = text_said c.args.command.now c.requires.ready c.session_mut.ensures.value judged.state judged.answer
    c.remark_command.ensures.written c.remark_command.ensures.faults c.in-Ok.ensures.prints in
    record { ok = told.ok; err = tt; cause = record { later = told.cause.later; failed = tt } }

-- and where it broke off
pub returns-in-Err-clause-prints : goal.returns-in-Err-clause-prints
returns-in-Err-clause-prints g c =
    let judged = c.judge-answer.ensures in
    let told = text_said c.args.command.now c.requires.ready c.session_mut.ensures.value judged.state judged.answer
    c.remark_command.ensures.written c.remark_command.ensures.faults c.in-Err.ensures.prints in
    record { ok = tt; err = told.err; cause = record { later = told.cause.later; failed = told.cause.failed } }

-- the desks and the steps
pub returns-in-Ok-clause-leaves : goal.returns-in-Ok-clause-leaves
returns-in-Ok-clause-leaves g c =
    let judged = c.judge-answer.ensures in
    leaves_said c.args.command.now c.requires.ready c.session_mut.ensures.value judged.state judged.answer
    _ _ c.judge-answer.new.steps _ judged.few judged.steps c.in-Ok.ensures.leaves

-- and where it broke off
pub returns-in-Err-clause-leaves : goal.returns-in-Err-clause-leaves
returns-in-Err-clause-leaves g c =
    let judged = c.judge-answer.ensures in
    leaves_said c.args.command.now c.requires.ready c.session_mut.ensures.value judged.state judged.answer
    _ _ c.judge-answer.new.steps _ judged.few judged.steps c.in-Err.ensures.leaves

-- desk 0 is the session that judged the line
pub write_answer-requires-clause-of : goal.write_answer-requires-clause-of
write_answer-requires-clause-of g c κs within =
    let judged = c.judge-answer.ensures in
    of_said c.args.command.now c.requires.ready c.session_mut.ensures.value judged.state judged.answer judged.ready

-- how the line ends the run
pub returns-in-Ok-clause-ends : goal.returns-in-Ok-clause-ends
returns-in-Ok-clause-ends g c =
    let judged = c.judge-answer.ensures in
    ends_said c.args.command.now c.requires.ready c.session_mut.ensures.value judged.state judged.answer c.ending.ensures

-- desk 0 after it
pub returns-in-Ok-clause-state : goal.returns-in-Ok-clause-state
returns-in-Ok-clause-state g c =
    let judged = c.judge-answer.ensures in
    state_said c.args.command.now c.requires.ready c.session_mut.ensures.value judged.state judged.answer c.in-Ok.ensures.state
