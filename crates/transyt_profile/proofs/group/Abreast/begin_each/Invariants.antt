-- The platoons so far stand before their first step.
use Rattle.std.proofs.Common.{◌≡◌, length}
use Rattle.transyt_profile.specs.Passing.{HasPassed}
use Rattle.transyt_profile.proofs.Lanes.{GoFirst}
use Rattle.transyt_profile.proofs.group.Abreast.begin_each.Given as goal

abbrev pub invariant-loop-lane : goal.invariant-loop-lane
invariant-loop-lane g l = record {
  len : length l.goings ≡ g.row.N;
  begun : GoFirst (λ p e. HasPassed p 0 e) l.self.ready.platoons.now l.goings l.lane;
}
