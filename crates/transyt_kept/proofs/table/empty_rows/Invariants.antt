-- So many rows are there, all 0, and there is room for all of them.
use Rattle.std.proofs.Common.{◌≡◌, ◌*◌, ◌≤◌, replicate, vec_capacity}
use Rattle.transyt_kept.proofs.table.empty_rows.Given as goal

abbrev pub invariant-loop-row : goal.invariant-loop-row
invariant-loop-row l = record {
  zeros : l.values.items ≡ replicate (l.row * l.size.step_count) 0;
  room : 2 * l.size.row_count * l.size.step_count ≤ vec_capacity l.values;
}
