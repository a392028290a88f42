-- A profile is filled step by step.
use Rattle.std.proofs.Common.{◌≡◌, ℕ, ◌<◌, get_or}
use Rattle.transyt_profile.proofs.filling.fill_uniform.Given as goal

-- the steps passed have the value
abbrev pub invariant-loop-place : goal.invariant-loop-place
invariant-loop-place l = (k : ℕ) → k < l.place-index → get_or l.out k 0 ≡ l.value
