-- A line for each row, and then the best.
use Rattle.std.proofs.Common.{[], ◌∷◌, ◌++◌, ap, ◌∙◌}
use Rattle.transyt_words.specs.Answer.{LineValue}
use Rattle.transyt_words.specs.Plans.{best_line, row_line}
use Rattle.transyt_words.proofs.LineLaws.{line_more, lines_done}
use Rattle.transyt_words.proofs.table.table_lines.Goals as goal

-- one row more
pub loop-row-preserved : goal.loop-row-preserved
loop-row-preserved c =
    line_more c.args.rows.now c.loop-row.row-index c.loop-row.lines.items _ (row_line c.args.by) _
    c.push.new.self.items c.loop-row-test.true
    (c.in_ok-push.ensures.items ∙ ap (λ (l : LineValue). c.loop-row.lines.items ++ l ∷ []) c.row_line.ensures)
    c.loop-row.invariant

-- all rows, and the best
pub returns : goal.returns
returns c =
    let rows = lines_done c.args.rows.now c.loop-row.row-index c.loop-row.lines.items _ (row_line c.args.by)
    c.loop-row-test.false c.loop-row.invariant in
    c.in_ok-push-2.ensures.items
    ∙ (λ j. rows j ++ (c.best_line.ensures ∙ ap best_line c.best.ensures.value) j ∷ [])
