-- Each turn goes on, or ends the run, by what its call of `next` reads and by what was answered.
use Rattle.std.proofs.Common.{Err, ap, ◌∙◌, sym, subst, refl, arith}
use Rattle.std.proofs.lemmas.Bool.{eqb-true}
use Rattle.transyt_line_answers.specs.Report.{deck_answering}
use Rattle.transyt_outcome.proofs.RunLaws.{run_new, goes_on, line_ends, line_stops, end_closes, end_stops, read_stops}
use Rattle.transyt_reporter.specs.Reporter.{ReporterValue, IsLive, state_of}
use Rattle.transyt_reporter.proofs.Answered.{deck_is, deck_quiet}
use Rattle.transyt_reporter.proofs.reporter.Reporter.run.Goals as goal

-- nothing is taken yet
pub loop-found-init : goal.loop-found-init
loop-found-init g c =
    let new = c.requires.new in record {
      way = run_new deck_answering (ap state_of new) (ap (λ (r : ReporterValue). r.lines) new) c.requires.fresh;
      live = subst IsLive (sym new) (refl, refl);
      workers = refl;
    }

-- the source failed, or has too many bytes
pub returns-in-Err : goal.returns-in-Err
returns-in-Err g c =
    let told = c.in-Err.ensures in
    read_stops c.loop-found.invariant.way _ _ told.later (omega arith) c.in-Err.stop told.reads c.stopped_reading.ensures
    refl (λ is. told.fault (ap Err is))

-- the end of the source is answered
pub returns-in-Ok-finish : goal.returns-in-Ok-finish
returns-in-Ok-finish g c =
    let end = rw c.in-End.is at c.in-Ok.ensures in
    let told = c.in-Ok-finish.ensures in
    end_closes c.loop-found.invariant.way _ _ end.later told.sink_later end.reads told.whole c.ended.ensures

-- the answer to the end stopped
pub returns-in-Err-finish : goal.returns-in-Err-finish
returns-in-Err-finish g c =
    let end = rw c.in-End.is at c.in-Ok.ensures in
    let told = c.in-Err-finish.ensures in
    end_stops c.loop-found.invariant.way _ _ end.later told.sink_later end.reads c.in-Err-finish.stop c.stopped.ensures
    told.part (λ is. told.takes_none (ap Err is)) (λ is. told.fault (ap Err is))

-- a line that doesn't end the run is answered
pub loop-found-preserved : goal.loop-found-preserved
loop-found-preserved g c =
    let so = c.loop-found.invariant in
    let found = rw c.in_default.is at c.in-Ok.ensures in
    let told = rw c.in-Ok-None.field-0-is at c.in-Ok-None.ensures in
    record {
      way = goes_on so.way _ _ found.later told.sink_later found.reads _ c.line.ensures c.next.ensures.most found.live
          told.whole (λ all. told.steps (so.workers ∙ eqb-true _ 1 all)) told.count;
      live = told.live refl;
      workers = told.workers ∙ so.workers;
    }

-- a line that ends the run is answered
pub returns-in-Ok-Some : goal.returns-in-Ok-Some
returns-in-Ok-Some g c =
    let so = c.loop-found.invariant in
    let found = rw c.in_default.is at c.in-Ok.ensures in
    let told = rw c.in-Ok-Some.field-0-is at c.in-Ok-Some.ensures in
    line_ends so.way _ _ found.later told.sink_later found.reads _ c.line.ensures c.next.ensures.most
    told.whole (λ all. told.steps (so.workers ∙ eqb-true _ 1 all)) c.status.ensures

-- the answer to a line stopped
pub returns-in-Err-answer_line : goal.returns-in-Err-answer_line
returns-in-Err-answer_line g c =
    let so = c.loop-found.invariant in
    let found = rw c.in_default.is at c.in-Ok.ensures in
    let told = c.in-Err-answer_line.ensures in
    line_stops so.way _ _ found.later told.sink_later found.reads _ c.line.ensures c.next.ensures.most
    c.in-Err-answer_line.stop c.stopped-in-Err-answer_line.ensures told.part
    (λ all. told.some_steps (so.workers ∙ eqb-true _ 1 all))
    (λ is. let silent = told.silent (ap Err is) in (
      deck_quiet so.way.before _ so.way.open_yet (sym (deck_is c.loop-found.self silent.0) ∙ so.way.state_is),
      ap g.K.Sink.written silent.1,
    ))
    (λ is. told.fault (ap Err is))
