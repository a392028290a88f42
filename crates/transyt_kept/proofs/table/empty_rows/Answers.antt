-- A row more is 0, since there is room for it.
use Rattle.std.proofs.Common.{◌≤◌, ◌+◌, ◌*◌, arith, ◌∙◌}
use Rattle.std.proofs.Math.Nat.{mul-le-mul_right}
use Rattle.transyt_kept.proofs.FlatLaws.{empty_more}
use Rattle.transyt_kept.proofs.table.empty_rows.Goals as goal

pub loop-row-preserved : goal.loop-row-preserved
loop-row-preserved c =
    let n = c.args.size.step_count in
    let row = c.loop-row.row in
    let end : (row + 1) * n ≤ 2 * c.args.size.row_count * n =
    mul-le-mul_right {m = row + 1} {n = 2 * c.args.size.row_count} n (omega arith) in
    let good = c.resize.ensures.succeeds (omega (arith, end, c.loop-row.invariant.room)) in
    record {
      zeros = c.resize.ensures.items ∙ rw (good, c.loop-row.values.ok.0) (empty_more row n _ c.loop-row.invariant.zeros);
      room = omega (arith, c.loop-row.invariant.room, c.resize.ensures.capacity);
    }
