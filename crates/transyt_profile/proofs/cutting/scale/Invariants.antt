-- Arrivals are scaled step by step.
use Rattle.std.proofs.Common.{◌≡◌, ℕ, ◌<◌, get_or}
use Rattle.transyt_profile.specs.StopLine.{scaled}
use Rattle.transyt_profile.proofs.cutting.scale.Given as goal

-- the steps passed are scaled
abbrev pub invariant-loop-step : goal.invariant-loop-step
invariant-loop-step l = (k : ℕ) → k < l.step
    → get_or l.out k 0 ≡ scaled l.scaling.arrivals l.scaling.go (get_or l.scaling.profile.now k 0)
