-- A profile is shared step by step.
use Rattle.std.proofs.Common.{◌≡◌, ℕ, ◌^◌, ◌<◌, get_or}
use Rattle.transyt_profile.specs.Profile.{share_of}
use Rattle.transyt_profile.proofs.sharing.share_part.Given as goal

-- the steps passed have their shares
abbrev pub invariant-loop-i : goal.invariant-loop-i
invariant-loop-i l = record {
  shared : (k : ℕ) → k < l.i → get_or l.out k 0 ≡ share_of l.part.part l.part.whole (get_or l.x k 0);
  small : (k : ℕ) → k < l.i → get_or l.out k 0 < 2 ^ 44;
}
