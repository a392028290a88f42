-- The row of a place more.
use Rattle.std.proofs.Common.{◌≡◌, ℕ, Some, None, subst, arith, rules, get_or}
use Rattle.transyt_climbs.specs.Deals.{Holds, batch_row, slot_of}
use Rattle.transyt_climbs.specs.declared.row.NetworkRow.{NetworkRow}
use Rattle.transyt_climbs.proofs.DealLaws.{held_row, rows_more}
use Rattle.transyt_climbs.proofs.table.gather.Goals as goal

pub loop-place-preserved : goal.loop-place-preserved
loop-place-preserved g c =
    let asked = g.P.NetworkList.list c.args.batch.now.work.now.asked.now in
    let net = c.args.batch.now.work.now.net.now in
    let deal = c.args.batch.now.deal in
    let first : ℕ = c.args.batch.now.first in
    let place : ℕ = c.loop-place.place in
    let row : NetworkRow = c.in-Some.row in
    let slot : ℕ = slot_of deal place in
    let at : get_or c.args.slots.now slot None ≡ Some row = search rules in
    let held : Holds (batch_row asked net first) deal slot (Some row) =
    subst (Holds (batch_row asked net first) deal slot) at (c.requires.made slot None (search rules)) in
    rows_more asked net first place c.loop-place.rows.items c.push.new.self.items row c.loop-place.invariant
    (held_row (batch_row asked net first) deal place row (omega arith) held) c.in_ok-push.ensures.items
