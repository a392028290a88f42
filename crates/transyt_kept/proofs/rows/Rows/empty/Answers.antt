-- Rows of 0 keep to what rows keep to, and their index is 0.
use Rattle.transyt_kept.proofs.WrittenLaws.{empty_kept}
use Rattle.transyt_kept.proofs.rows.Rows.empty.Goals as goal

pub invariant_of-result : goal.invariant_of-result
invariant_of-result c =
    let size = c.args.size in
    let shown = c.links-shown.ensures in
    let pairs = c.pairs.ensures in
    let tables = c.in-Ok-three_tables.ensures in
    rw (
      c.in_ok-figures.ensures,
      c.in-Ok.ensures,
      tables.one,
      tables.two,
      tables.three,
      shown.row_count,
      shown.step_count,
      pairs.row_count,
      pairs.step_count,
    ) (empty_kept size.step_count size.sweeps size.link_count size.steps_most size.sweeps_most size.links_most)
