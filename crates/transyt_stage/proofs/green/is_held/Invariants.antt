-- The steps of the end lag, one after another.
use Rattle.std.proofs.Common.{◌≡◌, ◌<◌, ℕ, false, get_or, length}
use Rattle.transyt_cycle.specs.Cycle.{minus_mod}
use Rattle.transyt_stage.proofs.green.is_held.Given as goal

-- so far it isn't shown at any
abbrev pub invariant-loop-back : goal.invariant-loop-back
invariant-loop-back l = (k : ℕ) → k < l.back
    → get_or l.at.shown.steps.now (minus_mod (length l.at.shown.steps.now) l.at.step k) false ≡ false
