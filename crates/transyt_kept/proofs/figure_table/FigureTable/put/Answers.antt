-- The version that isn't the mark's is written.
use Rattle.std.proofs.Common.{not, arith}
use Rattle.transyt_kept.specs.Versions.{bit}
use Rattle.transyt_kept.proofs.VersionLaws.{has_bits, has_version, version_written}
use Rattle.transyt_kept.proofs.figure_table.FigureTable.put.Goals as goal

pub other-slot-requires : goal.other-slot-requires
other-slot-requires c =
    let i = c.self.inside in
    has_bits i.slots i.versions.items c.self.invariant _ c.self.view_is c.args.link c.requires

pub index_mut-requires : goal.index_mut-requires
index_mut-requires c =
    let i = c.self.inside in
    let link = c.args.link in
    omega (
      arith,
      has_version i.slots i.versions.items c.self.invariant _ c.self.view_is link c.requires (not (bit i.slots.mark link)),
      c.other-slot.ensures.slot,
      i.versions.ok.0,
    )

pub returns : goal.returns
returns c =
    let i = c.self.inside in
    rw (c.other-slot.ensures.now, c.other-slot.ensures.slot)
    (version_written i.slots i.versions.items c.self.invariant _ c.self.view_is c.args.link c.requires c.args.figures)
