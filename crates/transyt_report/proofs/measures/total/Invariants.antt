-- The sum of the values so far is a part of the whole.
use Rattle.std.proofs.Common.{◌≡◌, ◌*◌, ◌^◌, ◌≤◌, take, sum}
use Rattle.transyt_report.proofs.measures.total.Given as goal

-- the sum so far, and its bound
abbrev pub invariant-loop-value : goal.invariant-loop-value
invariant-loop-value l = record {
  so_far : l.all ≡ sum (take l.value-index l.values);
  small : l.all ≤ l.value-index * 2 ^ 64;
}
