-- The flow of the links so far is a part of the sum.
use Rattle.std.proofs.Common.{◌≡◌, ◌*◌, ◌^◌, ◌≤◌, take, sum_by}
use Rattle.transyt_report.specs.Measures.{flow_from}
use Rattle.transyt_report.proofs.measures.flow_sent.Given as goal

-- the flow of the links so far, and its bound
abbrev pub invariant-loop-place : goal.invariant-loop-place
invariant-loop-place l = record {
  so_far : l.sent ≡ sum_by (flow_from l.number) (take l.place l.net.links);
  small : l.sent ≤ l.place * (8 * 2 ^ 32);
}
