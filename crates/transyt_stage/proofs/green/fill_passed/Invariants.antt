-- GO, step by step.
use Rattle.std.proofs.Common.{◌≡◌, ◌^◌, ◌<◌, ℕ, get_or}
use Rattle.transyt_stage.specs.Green.{passed_at}
use Rattle.transyt_stage.proofs.green.fill_passed.Given as goal

-- the steps so far have their GO
abbrev pub invariant-loop-i : goal.invariant-loop-i
invariant-loop-i l = record {
  passed : (k : ℕ) → k < l.i → get_or l.out k 0
      ≡ passed_at l.shown.steps.now l.shown.start_lag l.shown.end_lag l.room k;
  small : (k : ℕ) → k < l.i → get_or l.out k 0 < 2 ^ 30;
}
