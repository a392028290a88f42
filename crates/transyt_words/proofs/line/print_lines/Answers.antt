-- The lines are written one after another.
use Rattle.std.proofs.Common.{arith}
use Rattle.transyt_io.proofs.LoopLaws.{item_printed, item_broken, items_printed}
use Rattle.transyt_words.specs.Answer.{line_text}
use Rattle.transyt_words.proofs.line.print_lines.Goals as goal

-- one more is written
pub loop-said-preserved : goal.loop-said-preserved
loop-said-preserved g c =
    item_printed line_text c.args.lines.now c.loop-said.said-index c.said-item.result c.said-item.result _ _ _
    c.loop-said-test.true c.said-item.is c.loop-said.invariant c.in_ok-print.ensures

-- the text broke off in this one
pub returns-in_err-print : goal.returns-in_err-print
returns-in_err-print g c =
    item_broken _ (tt {0}) line_text c.args.lines.now c.loop-said.said-index c.said-item.result c.said-item.result _ _ _
    c.from_residual.ensures.0 c.loop-said-test.true c.said-item.is c.loop-said.invariant c.in_err-print.ensures

-- all are written
pub returns : goal.returns
returns g c =
    items_printed (tt {0}) line_text c.args.lines.now c.loop-said.said-index _ _ (omega (arith, c.loop-said-test.false))
    c.loop-said.invariant
