-- Of the platoons so far the step has gone by and arrived, of the others not yet.
use Rattle.std.proofs.Common.{◌≡◌, ℕ, ◌+◌, ◌*◌, ◌^◌, ◌<◌, length, get_or, sum_by, take, All}
use Rattle.transyt_profile.specs.Passing.{HasPassed, arrived}
use Rattle.transyt_profile.proofs.Lanes.{GoFirst, GoLast}
use Rattle.transyt_profile.proofs.group.Abreast.arrive_each.Given as goal

abbrev pub invariant-loop-lane : goal.invariant-loop-lane
invariant-loop-lane g l = record {
  len : length l.goings ≡ g.row.N;
  gone : GoFirst (λ p e. HasPassed p (l.self.ready.step_count + (l.step + 1)) e) l.self.ready.platoons.now l.goings l.lane;
  left : GoLast (λ p e. HasPassed p (l.self.ready.step_count + l.step) e) l.self.ready.platoons.now l.goings l.lane;
  arrives : (j : ℕ) → get_or l.turns j 0 + sum_by (arrived l.step j) (take l.lane l.self.ready.platoons.now)
      ≡ get_or l.initial.turns j 0 + sum_by (arrived (l.step + 1) j) (take l.lane l.self.ready.platoons.now);
  grows : (limit : ℕ) → All (λ v. v < limit) l.initial.turns → All (λ v. v < limit + l.lane * 2 ^ 22) l.turns;
}
