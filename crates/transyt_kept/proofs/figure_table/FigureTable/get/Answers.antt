-- The version that its bit names is read.
use Rattle.std.proofs.Common.{◌<◌, length, get_or, ap, ◌∙◌, arith}
use Rattle.std.proofs.lemmas.List.{get_or_default}
use Rattle.transyt_kept.specs.Cell.{no_figures}
use Rattle.transyt_kept.specs.Versions.{bit}
use Rattle.transyt_kept.proofs.VersionLaws.{has_bits, has_version, version_read}
use Rattle.transyt_kept.proofs.figure_table.FigureTable.get.Goals as goal

pub current-requires : goal.current-requires
current-requires c =
    let i = c.self.inside in
    has_bits i.slots i.versions.items c.self.invariant _ c.self.view_is c.args.link c.requires

pub index-requires : goal.index-requires
index-requires c =
    let i = c.self.inside in
    let link = c.args.link in
    omega (
      arith,
      has_version i.slots i.versions.items c.self.invariant _ c.self.view_is link c.requires (bit i.slots.now link),
      c.current.ensures,
      i.versions.ok.0,
    )

pub returns : goal.returns
returns c =
    let i = c.self.inside in
    let link = c.args.link in
    let xs = i.versions.items in
    let there : c.current.result < length xs =
    omega (
      arith,
      has_version i.slots xs c.self.invariant _ c.self.view_is link c.requires (bit i.slots.now link),
      c.current.ensures,
    ) in
    c.index.ensures
    ∙ get_or_default xs c.current.result c.index.result.now no_figures there
    ∙ ap (λ p. get_or xs p no_figures) c.current.ensures
    ∙ version_read i.slots xs c.self.invariant _ c.self.view_is link c.requires no_figures
