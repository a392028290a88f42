-- The flow of the feeds so far is a part of the sum.
use Rattle.std.proofs.Common.{◌≡◌, ◌*◌, ◌^◌, ◌≤◌, take, sum_by}
use Rattle.transyt_report.specs.Measures.{feed_flow}
use Rattle.transyt_report.proofs.measures.flow_from.Given as goal

-- the flow of the feeds so far, and its bound
abbrev pub invariant-loop-feed : goal.invariant-loop-feed
invariant-loop-feed l = record {
  so_far : l.flow ≡ sum_by (feed_flow l.number) (take l.feed-index l.feeds);
  small : l.flow ≤ l.feed-index * 2 ^ 32;
}
