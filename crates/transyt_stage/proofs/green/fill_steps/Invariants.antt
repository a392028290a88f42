-- The steps, one after another.
use Rattle.std.proofs.Common.{◌≡◌, ◌<◌, ℕ, if◌then◌else◌, get_or, length}
use Rattle.transyt_stage.proofs.ShownLaws.{between}
use Rattle.transyt_stage.proofs.green.fill_steps.Given as goal

-- those so far have the value
abbrev pub invariant-loop-step : goal.invariant-loop-step
invariant-loop-step g l = (i : ℕ) (d : g.row.T.Denot) → i < length l.initial.out
    → get_or l.out i d ≡ (if between l.from l.step i then l.value else get_or l.initial.out i d)
