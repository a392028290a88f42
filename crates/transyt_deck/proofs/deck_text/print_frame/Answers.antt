-- The FORM card is written, and then the CYCLE card.
use Rattle.transyt_io.proofs.PrintLaws.{prints_both, prints_front}
use Rattle.transyt_deck.specs.declared.card.Card.TheVariants as card
use Rattle.transyt_deck.proofs.CardLines.{one_printed}
use Rattle.transyt_deck.proofs.deck_text.print_frame.Goals as goal

-- the text broke off in the FORM card
pub returns-in_err-print_card : goal.returns-in_err-print_card
returns-in_err-print_card g c = prints_front _ _ _ c.from_residual.ensures.0 c.in_err-print_card.ensures

-- one card after the other
pub returns : goal.returns
returns g c =
    prints_both _ _ _ c.in_ok-print_card.ensures (one_printed _ (card.Cycle c.args.frame) c.print_cycle.ensures)
