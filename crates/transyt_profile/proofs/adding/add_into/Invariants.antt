-- A profile is added step by step.
use Rattle.std.proofs.Common.{◌≡◌, ℕ, ◌<◌, ◌≤◌, get_or}
use Rattle.transyt_profile.specs.Profile.{added_at}
use Rattle.transyt_profile.proofs.adding.add_into.Given as goal

-- the steps passed have their sums, the others are as they were
abbrev pub invariant-loop-i : goal.invariant-loop-i
invariant-loop-i l = record {
  summed : (k : ℕ) → k < l.i → get_or l.out k 0 ≡ added_at l.initial.out l.x k;
  rest : (k : ℕ) → l.i ≤ k → get_or l.out k 0 ≡ get_or l.initial.out k 0;
}
