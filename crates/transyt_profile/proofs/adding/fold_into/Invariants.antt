-- Two turns are folded step by step.
use Rattle.std.proofs.Common.{◌≡◌, ℕ, ◌+◌, ◌<◌, length, get_or}
use Rattle.transyt_profile.proofs.adding.fold_into.Given as goal

-- the steps passed have the sums of both turns
abbrev pub invariant-loop-i : goal.invariant-loop-i
invariant-loop-i l = (k : ℕ) → k < l.i
    → get_or l.out k 0 ≡ get_or l.turns k 0 + get_or l.turns (length l.initial.out + k) 0
