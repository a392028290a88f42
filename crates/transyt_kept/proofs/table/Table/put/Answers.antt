-- The version that isn't the mark's is written.
use Rattle.std.proofs.Common.{◌∙◌, arith}
use Rattle.transyt_kept.proofs.TableLaws.{bits_there, version_within, row_wide, row_written, table_written}
use Rattle.transyt_kept.proofs.table.Table.put.Goals as goal

pub other-requires : goal.other-requires
other-requires c = bits_there c.self.invariant _ c.self.view_is _ c.requires.place

pub overflow_mul-from : goal.overflow_mul-from
overflow_mul-from c =
    omega (arith, version_within c.self.invariant _ c.self.view_is _ c.requires.place _ _ c.other.ensures.slot)

pub overflow_add-from : goal.overflow_add-from
overflow_add-from c =
    omega (arith, version_within c.self.invariant _ c.self.view_is _ c.requires.place _ _ c.other.ensures.slot)

pub offset_bounds-deref_mut-from : goal.offset_bounds-deref_mut-from
offset_bounds-deref_mut-from c =
    omega (arith, version_within c.self.invariant _ c.self.view_is _ c.requires.place _ _ c.other.ensures.slot)

pub slice_bounds-copy_from_slice-end : goal.slice_bounds-copy_from_slice-end
slice_bounds-copy_from_slice-end c =
    omega (arith, version_within c.self.invariant _ c.self.view_is _ c.requires.place _ _ c.other.ensures.slot)

pub copy_from_slice-requires : goal.copy_from_slice-requires
copy_from_slice-requires c =
    omega (
      arith,
      version_within c.self.invariant _ c.self.view_is _ c.requires.place _ _ c.other.ensures.slot,
      c.requires.steps,
      row_wide c.self.invariant _ c.self.view_is _ c.requires.place,
    )

pub invariant_of-self : goal.invariant_of-self
invariant_of-self c =
    let i = c.self.inside in
    let place = c.requires.place in
    let steps = c.requires.steps ∙ row_wide c.self.invariant _ c.self.view_is _ place in
    rw (c.other.ensures.now, c.copy_from_slice.ensures.after, c.deref_mut.ensures.value)
    (table_written c.self.invariant _ c.self.view_is _ place _ steps _ i.values.ok.0 _ _ c.other.ensures.slot)

pub returns : goal.returns
returns c =
    let i = c.self.inside in
    let place = c.requires.place in
    let steps = c.requires.steps ∙ row_wide c.self.invariant _ c.self.view_is _ place in
    rw (c.other.ensures.now, c.copy_from_slice.ensures.after, c.deref_mut.ensures.value, c.other.ensures.slot)
    (row_written c.self.invariant _ c.self.view_is _ place _ steps _ i.values.ok.0)
