-- The climb is on its way, and the lines of its steps are written.
use Rattle.std.proofs.Common.{◌≡◌, ◌-◌}
use Rattle.transyt_reporter.proofs.ClimbWay.{IsOnWay}
use Rattle.transyt_reporter.proofs.workers.AnswerWriter.climb.Given as goal

-- the climb so far, its budget, its desks, and its steps with one worker; and the workers stay
abbrev pub invariant-loop-round : goal.invariant-loop-round
invariant-loop-round g l =
    let written = g.K.Sink.written in
    let faults = g.K.Sink.faults in record {
      way : IsOnWay l.fn.desks l.desks l.climber (written l.fn.sink) (written l.sink) (faults l.fn.sink) (faults l.sink)
          l.fn.steps l.steps;
      workers : l.self.workers.count ≡ l.fn.self.workers.count;
    }

-- fewer places may still be looked at
abbrev pub decreases-loop-round : goal.decreases-loop-round
decreases-loop-round g l = l.climber.budget - l.climber.looked
