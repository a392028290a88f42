-- Two turns are started step by step.
use Rattle.std.proofs.Common.{◌≡◌, ℕ, ◌+◌, ◌<◌, get_or}
use Rattle.transyt_profile.proofs.filling.start_turns.Given as goal

-- the steps passed of the first turn have the value
abbrev pub invariant-first : goal.invariant-first
invariant-first l = (k : ℕ) → k < l.step → get_or l.turns k 0 ≡ l.value

-- all of the first turn have it, and the steps passed of the second 0
abbrev pub invariant-second : goal.invariant-second
invariant-second l = record {
  first : (k : ℕ) → k < l.step_count → get_or l.turns k 0 ≡ l.value;
  second : (k : ℕ) → k < l.step → get_or l.turns (l.step_count + k) 0 ≡ 0;
}
