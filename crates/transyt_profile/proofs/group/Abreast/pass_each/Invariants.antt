-- Of the platoons so far the step has gone by, of the others not yet.
use Rattle.std.proofs.Common.{◌≡◌, ◌+◌, length}
use Rattle.transyt_profile.specs.Passing.{HasPassed}
use Rattle.transyt_profile.proofs.Lanes.{GoFirst, GoLast}
use Rattle.transyt_profile.proofs.group.Abreast.pass_each.Given as goal

abbrev pub invariant-loop-lane : goal.invariant-loop-lane
invariant-loop-lane g l = record {
  len : length l.goings ≡ g.row.N;
  gone : GoFirst (λ p e. HasPassed p (l.step + 1) e) l.self.ready.platoons.now l.goings l.lane;
  left : GoLast (λ p e. HasPassed p l.step e) l.self.ready.platoons.now l.goings l.lane;
}
