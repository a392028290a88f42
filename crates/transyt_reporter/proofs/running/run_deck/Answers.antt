-- Without memory nothing is taken or written; the rest is said by the run over the lines.
use Rattle.std.proofs.Common.{◌≡◌, Bool, ℕ, List, Option, nat_eq, inl, arith, [], refl, ap, sym, subst, ◌∙◌}
use Rattle.transyt_io.proofs.Told.{takes_nothing, adds_nothing}
use Rattle.transyt_io.specs.Streams.{Rose}
use Rattle.transyt_outcome.specs.Ends.{Ends, FaultRose}
use Rattle.transyt_outcome.specs.declared.status.Status.{Status}
use Rattle.transyt_outcome.specs.declared.status.Status.TheVariants.{ReadFault, WriteFault}
use Rattle.transyt_outcome.specs.RunSoFar.{RunOutcome}
use Rattle.transyt_outcome.specs.Runs.{Answering}
use Rattle.transyt_outcome.specs.Outcome.{Outcome}
use Rattle.transyt_line_answers.specs.Report.{reporting_run}
use Rattle.transyt_reporter.specs.Reporter.{ReporterValue}
use Rattle.transyt_reporter.proofs.running.run_deck.Goals as goal

-- no memory for writing
pub returns-in_default-clause-outcome : goal.returns-in_default-clause-outcome
returns-in_default-clause-outcome g c = record {
  taken = [];
  out = [];
  takes = takes_nothing _;
  adds = adds_nothing _;
  row = refl;
}

-- and no step
pub returns-in_default-clause-steps : goal.returns-in_default-clause-steps
returns-in_default-clause-steps g c = λ all. record {
  taken = [];
  takes = takes_nothing _;
  says = inl (omega arith);
}

-- the bytes taken and those written
pub returns-clause-outcome : goal.returns-clause-outcome
returns-clause-outcome g c =
    let W : Option (List ℕ) → Type 0 =
    λ w. Outcome reporting_run (g.S.Source.left c.args.source.now) (g.S.Source.left c.run-status.new.source)
    (g.S.Source.last c.run-status.new.source) (g.K.Sink.written c.args.sink.now) w c.run-status.result in
    subst W (sym c.remark_refused.ensures.written) c.run-status.ensures.outcome

-- the steps
pub returns-clause-steps : goal.returns-clause-steps
returns-clause-steps g c = λ one.
    c.run-status.ensures.steps_taken
    (ap (λ (r : ReporterValue). nat_eq r.workers 1) c.in-Ok.ensures.value ∙ ap (λ (n : ℕ). nat_eq n 1) one)

-- a status of a fault comes only where its count rose
module _ {State : Type 0} {by : Answering State} {counted : Bool} {old new : Ends} {steps steps_new : ℕ} {status : Status}
    (ran : RunOutcome by counted old new steps steps_new status) where
  read_rose : status ≡ ReadFault → Rose old.reads new.reads
  read_rose is = subst (FaultRose old new) is ran.fault

  write_rose : status ≡ WriteFault → Rose old.writes new.writes
  write_rose is = subst (FaultRose old new) is ran.fault

-- the source's
pub returns-clause-read_fault : goal.returns-clause-read_fault
returns-clause-read_fault g c is = read_rose c.run-status.ensures is

-- the sink's, which remarks leave as it was
pub returns-clause-write_fault : goal.returns-clause-write_fault
returns-clause-write_fault g c is =
    subst (λ n. Rose (g.K.Sink.faults c.args.sink.now) n) (sym c.remark_refused.ensures.faults)
    (write_rose c.run-status.ensures is)
