-- The version that its bit names is read.
use Rattle.std.proofs.Common.{arith}
use Rattle.transyt_kept.proofs.TableLaws.{bits_there, version_within, row_read}
use Rattle.transyt_kept.proofs.table.Table.row.Goals as goal

pub current-requires : goal.current-requires
current-requires c = bits_there c.self.invariant _ c.self.view_is _ c.requires

pub overflow_mul-from : goal.overflow_mul-from
overflow_mul-from c =
    omega (arith, version_within c.self.invariant _ c.self.view_is _ c.requires _ _ c.current.ensures)

pub overflow_add-result : goal.overflow_add-result
overflow_add-result c =
    omega (arith, version_within c.self.invariant _ c.self.view_is _ c.requires _ _ c.current.ensures)

pub offset_bounds-deref-from : goal.offset_bounds-deref-from
offset_bounds-deref-from c =
    omega (arith, version_within c.self.invariant _ c.self.view_is _ c.requires _ _ c.current.ensures)

pub slice_bounds-result-end : goal.slice_bounds-result-end
slice_bounds-result-end c =
    omega (arith, version_within c.self.invariant _ c.self.view_is _ c.requires _ _ c.current.ensures)

pub returns : goal.returns
returns c =
    rw (c.deref.ensures.value, c.current.ensures) (row_read c.self.invariant _ c.self.view_is _ c.requires)
