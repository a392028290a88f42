-- The deck text after the lines.
use Rattle.std.proofs.Common.{◌++◌, ap}
use Rattle.transyt_io.proofs.PrintLaws.{prints_both, prints_front, prints_same}
use Rattle.transyt_words.specs.Answer.{deck_after, lines_text}
use Rattle.transyt_words.proofs.whole.print_answer.Goals as goal

-- the text broke off in the lines
pub returns-in_err-print_lines : goal.returns-in_err-print_lines
returns-in_err-print_lines g c =
    prints_same _ _ _ _ _
    (prints_front _ _ (deck_after c.args.found.now.deck) c.from_residual.ensures.0 c.in_err-print_lines.ensures)
    (ap (λ lines. lines_text lines ++ deck_after c.args.found.now.deck) c.lines.ensures)

-- all is written
pub returns : goal.returns
returns g c =
    prints_same _ _ _ _ _
    (prints_both _ _ _ c.in_ok-print_lines.ensures c.print_net.ensures)
    (λ i. lines_text (c.lines.ensures i) ++ deck_after (c.deck.ensures i))
