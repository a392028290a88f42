-- Of figures that are all 0 each is shown.
use Rattle.std.proofs.Common.{◌≡◌, ◌*◌, false, replicate, rules, ◌∙◌}
use Rattle.transyt_kept.specs.Cell.{no_figures}
use Rattle.transyt_kept.specs.Versions.{versions_of, both}
use Rattle.transyt_kept.proofs.VersionLaws.{shown_alike}
use Rattle.transyt_kept.proofs.figure_table.FigureTable.empty.Goals as goal

pub returns : goal.returns
returns c =
    let n = c.args.count in
    let none : c.in_ok-versions.versions.items ≡ replicate (2 * n) no_figures = search rules in
    (λ j. versions_of (c.in_ok-slots.ensures j) (none j)) ∙ (λ j. both (shown_alike n false no_figures j))
