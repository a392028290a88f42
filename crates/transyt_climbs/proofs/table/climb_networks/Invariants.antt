-- The rows so far.
use Rattle.std.proofs.Common.{◌≡◌, ◌≤◌, ◌-◌, length}
use Rattle.transyt_climbs.specs.Deals.{first_rows}
use Rattle.transyt_climbs.proofs.table.climb_networks.Given as goal

-- the rows of the first places, and no remark wrote anything
abbrev pub invariant-loop-rows : goal.invariant-loop-rows
invariant-loop-rows g l = record {
  rows : l.rows.items ≡ first_rows (g.P.NetworkList.list l.work.asked.now) l.work.net.now (length l.rows.items);
  few : length l.rows.items ≤ (g.P.NetworkList.list l.work.asked.now).count;
  written : g.K.Sink.written l.sink ≡ g.K.Sink.written l.initial.sink;
  faults : g.K.Sink.faults l.sink ≡ g.K.Sink.faults l.initial.sink;
}

-- each batch has a row or more
abbrev pub decreases-loop-rows : goal.decreases-loop-rows
decreases-loop-rows g l = (g.P.NetworkList.list l.work.asked.now).count - length l.rows.items
