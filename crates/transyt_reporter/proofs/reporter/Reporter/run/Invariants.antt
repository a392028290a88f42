-- How far the run has come.
use Rattle.std.proofs.Common.{◌≡◌, nat_eq}
use Rattle.transyt_io.specs.Reading.{most_lines_left}
use Rattle.transyt_outcome.specs.Ends.{ends_of}
use Rattle.transyt_outcome.specs.RunSoFar.{RunSoFar}
use Rattle.transyt_line_answers.specs.Report.{deck_answering}
use Rattle.transyt_reporter.specs.Reporter.{state_of, IsLive}
use Rattle.transyt_reporter.proofs.reporter.Reporter.run.Given as goal

-- from what source, sink and steps told at its start
abbrev pub invariant-loop-found : goal.invariant-loop-found
invariant-loop-found g l =
    let ends = ends_of g.S.Source.left g.S.Source.last g.S.Source.faults g.K.Sink.written g.K.Sink.faults in record {
      way : RunSoFar deck_answering (state_of l.self) l.self.lines (nat_eq l.fn.self.workers 1) l.reader
          (ends l.fn.source l.fn.sink) (ends l.source l.sink) l.fn.steps l.steps;
      live : IsLive l.self;
      workers : l.self.workers ≡ l.fn.self.workers;
    }

-- fewer lines may still be handed out
abbrev pub decreases-loop-found : goal.decreases-loop-found
decreases-loop-found g l = most_lines_left l.reader
