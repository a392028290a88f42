-- The steps of the start lag, one after another.
use Rattle.std.proofs.Common.{◌≡◌, ◌<◌, ℕ, false, length}
use Rattle.transyt_cycle.specs.Cycle.{minus_mod}
use Rattle.transyt_stage.specs.Green.{opens}
use Rattle.transyt_stage.proofs.green.is_starting.Given as goal

-- so far none opens it
abbrev pub invariant-loop-back : goal.invariant-loop-back
invariant-loop-back l = (k : ℕ) → k < l.back
    → opens l.at.shown.steps.now (minus_mod (length l.at.shown.steps.now) l.at.step k) ≡ false
