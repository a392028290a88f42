-- The version that isn't the mark's is written.
use Rattle.std.proofs.Common.{arith}
use Rattle.std.proofs.lemmas.List.{length-replicate}
use Rattle.transyt_kept.proofs.TableLaws.{bits_there, version_within, version_wide, row_wide, row_written, table_written}
use Rattle.transyt_kept.proofs.table.Table.fill.Goals as goal

pub other-requires : goal.other-requires
other-requires c = bits_there c.self.invariant _ c.self.view_is _ c.requires

pub overflow_mul-from : goal.overflow_mul-from
overflow_mul-from c =
    omega (arith, version_within c.self.invariant _ c.self.view_is _ c.requires _ _ c.other.ensures.slot)

pub overflow_add-from : goal.overflow_add-from
overflow_add-from c =
    omega (arith, version_within c.self.invariant _ c.self.view_is _ c.requires _ _ c.other.ensures.slot)

pub offset_bounds-deref_mut-from : goal.offset_bounds-deref_mut-from
offset_bounds-deref_mut-from c =
    omega (arith, version_within c.self.invariant _ c.self.view_is _ c.requires _ _ c.other.ensures.slot)

pub slice_bounds-fill_uniform-end : goal.slice_bounds-fill_uniform-end
slice_bounds-fill_uniform-end c =
    omega (arith, version_within c.self.invariant _ c.self.view_is _ c.requires _ _ c.other.ensures.slot)

pub invariant_of-self : goal.invariant_of-self
invariant_of-self c =
    let i = c.self.inside in
    let slot = c.other.ensures.slot in
    rw (
      c.other.ensures.now,
      c.fill_uniform.ensures.value,
      c.deref_mut.ensures.value,
      version_wide c.self.invariant _ c.self.view_is _ c.requires _ _ slot,
    ) (table_written c.self.invariant _ c.self.view_is _ c.requires _ (length-replicate i.size.step_count c.args.value) _
    i.values.ok.0 _ _ slot)

pub returns : goal.returns
returns c =
    let i = c.self.inside in
    let slot = c.other.ensures.slot in
    rw (
      c.other.ensures.now,
      c.fill_uniform.ensures.value,
      c.deref_mut.ensures.value,
      version_wide c.self.invariant _ c.self.view_is _ c.requires _ _ slot,
      slot,
      row_wide c.self.invariant _ c.self.view_is _ c.requires,
    ) (row_written c.self.invariant _ c.self.view_is _ c.requires _ (length-replicate i.size.step_count c.args.value) _
    i.values.ok.0)
