-- The climb is on its way at each turn, and its steps are counted.
use Rattle.std.proofs.Common.{◌≡◌, ◌+◌, ◌-◌}
use Rattle.transyt_climb.specs.Turns.{machine}
use Rattle.transyt_climb.proofs.CountedLaws.{IsCounted}
use Rattle.transyt_climb.proofs.climbing.climb_on.Given as goal

-- the climb so far, and the counter has gone with the work
abbrev pub invariant-loop-turn : goal.invariant-loop-turn
invariant-loop-turn g l = record {
  counted : IsCounted l.fn.climber.budget l.fn.session (machine l.climber l.session) l.took;
  steps : l.steps + l.fn.session.work ≡ l.fn.steps + l.session.work;
}

-- the looks that are left
abbrev pub decreases-loop-turn : goal.decreases-loop-turn
decreases-loop-turn g l = l.climber.budget - l.climber.looked
