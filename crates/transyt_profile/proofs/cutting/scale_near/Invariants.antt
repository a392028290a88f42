-- Arrivals are scaled step by step.
use Rattle.std.proofs.Common.{◌≡◌, ℕ, ◌<◌, get_or}
use Rattle.transyt_profile.specs.StopLine.{scaled}
use Rattle.transyt_profile.proofs.cutting.scale_near.Given as goal

-- the steps passed are scaled
abbrev pub invariant-loop-step : goal.invariant-loop-step
invariant-loop-step l = (k : ℕ) → k < l.step
    → get_or l.out k 0 ≡ scaled l.near.scaling.arrivals l.near.scaling.go (get_or l.near.scaling.profile.now k 0)
