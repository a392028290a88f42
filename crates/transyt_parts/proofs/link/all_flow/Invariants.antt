-- The entry flow and the flows of the feeds so far, and their bound.
use Rattle.std.proofs.Common.{◌≡◌, ◌+◌, ◌*◌, ◌≤◌, take, sum_by}
use Rattle.transyt_parts.proofs.link.all_flow.Given as goal

abbrev pub invariant-loop-feed : goal.invariant-loop-feed
invariant-loop-feed l = record {
  small : l.all ≤ 9999 + l.feed-index * 9999;
  so_far : l.all ≡ l.link.entry + sum_by (λ f. f.flow) (take l.feed-index l.link.feeds);
}
