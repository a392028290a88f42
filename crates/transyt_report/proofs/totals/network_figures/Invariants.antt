-- The delay and the stops of the links so far are parts of the sums.
use Rattle.std.proofs.Common.{◌≡◌, ◌*◌, ◌^◌, ◌≤◌, map, sum}
use Rattle.std.specs.List.{range_with_len}
use Rattle.transyt_report.specs.Measures.{stops_at, waiting_at}
use Rattle.transyt_report.proofs.totals.network_figures.Given as goal

-- the sums over the links so far, and their bounds
abbrev pub invariant-loop-place : goal.invariant-loop-place
invariant-loop-place l = record {
  delay : l.delay ≡ sum (map (waiting_at l.session.net) (range_with_len 0 l.place));
  few_delays : l.delay ≤ l.place * 2 ^ 65;
  stops : l.stops ≡ sum (map (stops_at l.session.net) (range_with_len 0 l.place));
  few_stops : l.stops ≤ l.place * 2 ^ 64;
}
