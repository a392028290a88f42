-- The lines of the places before this one are written, and their work is added.
use Rattle.std.proofs.Common.{◌≡◌, ◌-◌}
use Rattle.transyt_desks.specs.Desks.{desk_zero}
use Rattle.transyt_io.specs.Prints.{Printed}
use Rattle.transyt_reporter.specs.Conditions.{places_text}
use Rattle.transyt_reporter.proofs.CertifyLaws.{AreCertified}
use Rattle.transyt_reporter.proofs.workers.AnswerWriter.certify.Given as goal

-- the text so far, and the desks
abbrev pub invariant-loop-from : goal.invariant-loop-from
invariant-loop-from g l = record {
  printed : Printed (g.K.Sink.written l.fn.sink) (g.K.Sink.written l.sink) (g.K.Sink.faults l.fn.sink)
      (g.K.Sink.faults l.sink) (places_text (desk_zero l.fn.desks).net 0 l.from);
  certified : AreCertified l.fn.desks l.desks l.places l.from l.fn.steps l.steps;
  workers : l.self.workers.count ≡ l.fn.self.workers.count;
}

-- fewer places are left
abbrev pub decreases-loop-from : goal.decreases-loop-from
decreases-loop-from g l = l.places - l.from
