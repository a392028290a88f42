-- A profile is summed step by step.
use Rattle.std.proofs.Common.{◌≡◌, ◌*◌, ◌^◌, ◌≤◌, sum, take}
use Rattle.transyt_profile.proofs.totals.total.Given as goal

-- so far the sum of the steps passed, each below its limit
abbrev pub invariant-loop-value : goal.invariant-loop-value
invariant-loop-value l = record {
  small : l.all ≤ l.value-index * 2 ^ 48;
  so_far : l.all ≡ sum (take l.value-index l.x);
}
