-- Of rows that are all 0 each is shown.
use Rattle.std.proofs.Common.{◌≡◌, ◌*◌, ℕ, List, false, replicate, rules, ap, ◌∙◌}
use Rattle.transyt_kept.specs.Versions.{versions_of, both, cut_rows}
use Rattle.transyt_kept.proofs.FlatLaws.{cut_empty}
use Rattle.transyt_kept.proofs.VersionLaws.{shown_alike}
use Rattle.transyt_kept.proofs.table.Table.empty.Goals as goal

pub returns : goal.returns
returns c =
    let count = c.args.size.row_count in
    let n = c.args.size.step_count in
    let zeros : List ℕ = replicate n 0 in
    let none : c.in-Ok.values.items ≡ replicate (2 * count * n) 0 = search rules in
    let rows = ap (cut_rows (2 * count) n) none ∙ cut_empty (2 * count) n in
    (λ j. versions_of (c.in_ok-slots.ensures j) (rows j)) ∙ (λ j. both (shown_alike count false zeros j))
