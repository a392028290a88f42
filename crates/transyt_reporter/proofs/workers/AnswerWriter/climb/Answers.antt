-- One round more of a climb on its way, whose line is written, or its last.
use Rattle.std.proofs.Common.{refl, sym, ◌∙◌, ap}
use Rattle.transyt_sweep.specs.Sweeps.{index}
use Rattle.transyt_session.specs.Session.{SessionValue}
use Rattle.transyt_climb.proofs.CountedLaws.{fewer_left}
use Rattle.transyt_io.proofs.PrintLaws.{prints_same}
use Rattle.transyt_report.specs.Texts.{end_text}
use Rattle.transyt_reporter.proofs.ClimbTexts.{climb_ended, step_breaks, end_written}
use Rattle.transyt_reporter.proofs.ClimbWay.{way_begins, way_on, way_leaves}
use Rattle.transyt_reporter.proofs.MoveLaws.{steps_round}
use Rattle.transyt_reporter.proofs.workers.AnswerWriter.climb.Goals as goal

-- no line is written yet
pub loop-round-init : goal.loop-round-init
loop-round-init g c =
    let start = c.start_climber-climber.ensures in record {
      way = way_begins (c.net.ensures ∙ ap (λ (s : SessionValue). s.net) c.session.ensures) start.start start.few
          c.requires.idle.closed c.requires.idle.ready.alike _ _ _;
      workers = refl;
    }

-- the line of a step is written
pub loop-round-preserved : goal.loop-round-preserved
loop-round-preserved g c =
    let round = c.stretch_round-round.ensures in record {
      way = way_on _ _ c.loop-round.invariant.way round.made round.alike round.workers round.steps (tt {0})
          (sym c.is_end.ensures ∙ c.if-is_end.false) c.in_ok-write_step.ensures;
      workers = c.loop-round.invariant.workers;
    }

-- the last line is written, or broke off
pub returns-then-is_end-clause-prints : goal.returns-then-is_end-clause-prints
returns-then-is_end-clause-prints g c =
    let index_is = c.index.ensures ∙ ap (λ (s : SessionValue). index s.net) c.session-then-is_end.ensures in
    end_written c.loop-round.invariant.way.written c.stretch_round-round.ensures.made (tt {0}) c.write.result _ _
    (sym c.is_end.ensures ∙ c.if-is_end.true)
    (prints_same _ _ c.write.result _ _ c.write.ensures
    (λ i. end_text (c.is_local.ensures i) (c.looked.ensures.value i) (index_is i)))

-- the session at the end
pub returns-then-is_end-clause-state : goal.returns-then-is_end-clause-state
returns-then-is_end-clause-state g c =
    climb_ended c.loop-round.invariant.way.written c.stretch_round-round.ensures.made c.write.result
    (sym c.is_end.ensures ∙ c.if-is_end.true)

-- the line of a step broke off
pub returns-in_err-write_step-clause-prints : goal.returns-in_err-write_step-clause-prints
returns-in_err-write_step-clause-prints g c =
    step_breaks c.loop-round.invariant.way.written c.stretch_round-round.ensures.made (tt {0}) _ _ _ _
    c.from_residual.ensures.0 c.in_err-write_step.ensures

-- fewer places are left
pub loop-round-smaller : goal.loop-round-smaller
loop-round-smaller g c =
    fewer_left c.loop-round.invariant.way.written.climb _ _ _ c.stretch_round-round.ensures.made.round
    (sym c.is_end.ensures ∙ c.if-is_end.false)

-- the step of a round is one of an offset or a change
pub write_step-requires : goal.write_step-requires
write_step-requires g c = steps_round _ _ _ _ c.stretch_round-round.ensures.made.round

-- the desks and the steps after the last round, or where the line of a step broke off
pub returns-then-is_end-clause-leaves : goal.returns-then-is_end-clause-leaves
returns-then-is_end-clause-leaves g c =
    let round = c.stretch_round-round.ensures in
    way_leaves _ _ c.loop-round.invariant.way round.made round.alike round.workers round.steps c.requires.idle.ready

pub returns-in_err-write_step-clause-leaves : goal.returns-in_err-write_step-clause-leaves
returns-in_err-write_step-clause-leaves g c =
    let round = c.stretch_round-round.ensures in
    way_leaves _ _ c.loop-round.invariant.way round.made round.alike round.workers round.steps c.requires.idle.ready
