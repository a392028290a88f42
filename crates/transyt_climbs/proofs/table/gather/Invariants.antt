-- The rows so far.
use Rattle.std.proofs.Common.{◌≡◌, ◌+◌}
use Rattle.transyt_climbs.specs.Deals.{first_rows}
use Rattle.transyt_climbs.proofs.table.gather.Given as goal

-- the rows of all places before this one of the batch
abbrev pub invariant-loop-place : goal.invariant-loop-place
invariant-loop-place g l =
    l.rows.items ≡ first_rows (g.P.NetworkList.list l.batch.work.now.asked.now) l.batch.work.now.net.now (l.batch.first + l.place)
