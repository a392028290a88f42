-- The NODE card is written, and then the STAGE cards.
use Rattle.std.proofs.Common.{ap, ◌∙◌}
use Rattle.transyt_io.proofs.PrintLaws.{prints_both, prints_front, prints_same}
use Rattle.transyt_parts.specs.Parts.{NodeValue}
use Rattle.transyt_deck.specs.Cards.{node_cards, cards_text}
use Rattle.transyt_deck.specs.declared.card.Card.TheVariants as card
use Rattle.transyt_deck.proofs.CardLines.{lines_of_map}
use Rattle.transyt_deck.proofs.deck_text.print_node.Goals as goal

-- the text broke off in the NODE card
pub returns-in_err-print_number : goal.returns-in_err-print_number
returns-in_err-print_number g c =
    prints_same _ _ _ _ _ (prints_front _ _ _ c.from_residual.ensures.0 c.in_err-print_number.ensures)
    (ap (λ n. cards_text (node_cards n)) c.node.view_is)

-- the NODE card, and the STAGE cards after it
pub returns : goal.returns
returns g c =
    let fields = c.node.inside in
    let node : NodeValue = record { number = fields.number; offset = fields.offset; stages = c.deref.result.now } in
    prints_same _ _ _ _ _ (prints_both _ _ _ c.in_ok-print_number.ensures
    (prints_same _ _ _ _ _ c.print_stages.ensures (lines_of_map card.Stage c.deref.result.now)))
    (ap (λ ss. cards_text (node_cards (record node { stages = ss }))) c.deref.ensures.value
    ∙ ap (λ n. cards_text (node_cards n)) c.node.view_is)
