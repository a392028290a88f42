-- A profile is shared and made ready in its lane step by step.
use Rattle.std.proofs.Common.{◌≡◌, ℕ, ◌*◌, ◌^◌, ◌<◌, ◌≤◌, take, sum_by}
use Rattle.transyt_profile.specs.Profile.{share_of}
use Rattle.transyt_profile.proofs.ReadyLaws.{share_at, InLane, OthersStay, Reached}
use Rattle.transyt_profile.proofs.readying.share_ready.Given as goal

-- the steps passed are ready; they have this sum, and the greatest so far is that of one of them
abbrev pub invariant-loop-i : goal.invariant-loop-i
invariant-loop-i l = record {
  most : (k : ℕ) → k < l.i → share_at l.part.part l.part.whole l.x k ≤ l.greatest;
  reached : Reached (share_at l.part.part l.part.whole l.x) l.i l.greatest;
  greatest : l.greatest < 2 ^ 44;
  ready : InLane l.lanes (share_at l.part.part l.part.whole l.x) l.factor l.number l.i;
  others : OthersStay l.initial.lanes l.lanes l.number;
  so_far : l.total ≡ sum_by (share_of l.part.part l.part.whole) (take l.i l.x);
  total : l.total ≤ l.i * 2 ^ 44;
}
