-- A line for each row, and then the best.
use Rattle.std.proofs.Common.{◌≡◌, [], ◌∷◌, ◌++◌, ap, ◌∙◌, arith}
use Rattle.std.proofs.lemmas.Grind.{common_steps}
use Rattle.transyt_climbs.specs.Scan.{best}
use Rattle.transyt_words.specs.Answer.{LineValue}
use Rattle.transyt_words.specs.Scan.{best_line, row_line}
use Rattle.transyt_words.proofs.LineLaws.{line_more, lines_done}
use Rattle.transyt_words.proofs.scan.table_lines.Goals as goal

-- one row more
pub loop-row-preserved : goal.loop-row-preserved
loop-row-preserved c =
    line_more c.args.rows.now c.loop-row.row-index c.loop-row.lines.items _ row_line _ c.push.new.self.items
    c.loop-row-test.true
    (c.in_ok-push.ensures.items ∙ ap (λ (l : LineValue). c.loop-row.lines.items ++ l ∷ []) c.row_line.ensures)
    c.loop-row.invariant

-- all rows, and the best
pub returns : goal.returns
returns c =
    let rows = lines_done c.args.rows.now c.loop-row.row-index c.loop-row.lines.items _ row_line
    c.loop-row-test.false c.loop-row.invariant in
    let last : c.best_line.result ≡ best_line (best c.args.rows.now) =
    grind (arith, common_steps, c.best_line.ensures, c.least.ensures.best) in
    c.in_ok-push-2.ensures.items ∙ (λ j. rows j ++ last j ∷ [])
