-- The climb is on its way at each round, and its steps are counted.
use Rattle.std.proofs.Common.{◌≡◌, ◌+◌, ◌-◌, length}
use Rattle.transyt_climb.specs.Turns.{machine}
use Rattle.transyt_climb.proofs.CountedLaws.{IsCounted}
use Rattle.transyt_desks.specs.Desks.{desk_zero, AreAlike}
use Rattle.transyt_desks.proofs.climbing.climb_by_rounds.Given as goal

-- the desks' networks have one shape, and with one desk the counter has gone with the work
abbrev pub invariant-loop-round : goal.invariant-loop-round
invariant-loop-round g l = record {
  counted : IsCounted l.fn.climber.budget (desk_zero l.fn.desks) (machine l.climber (desk_zero l.desks)) l.took;
  alike : AreAlike l.desks;
  workers : length l.desks ≡ length l.fn.desks;
  steps : length l.fn.desks ≡ 1 → l.steps + (desk_zero l.fn.desks).work ≡ l.fn.steps + (desk_zero l.desks).work;
}

-- the looks that are left
abbrev pub decreases-loop-round : goal.decreases-loop-round
decreases-loop-round g l = l.climber.budget - l.climber.looked
