-- A profile is added to the first turn step by step.
use Rattle.std.proofs.Common.{◌≡◌, ℕ, ◌+◌, ◌<◌, ◌≤◌, get_or}
use Rattle.transyt_profile.proofs.adding.add_to_first.Given as goal

-- the steps passed have their sums, the others are as they were
abbrev pub invariant-loop-i : goal.invariant-loop-i
invariant-loop-i l = record {
  summed : (k : ℕ) → k < l.i → get_or l.turns k 0 ≡ get_or l.initial.turns k 0 + get_or l.x k 0;
  rest : (k : ℕ) → l.i ≤ k → get_or l.turns k 0 ≡ get_or l.initial.turns k 0;
}
