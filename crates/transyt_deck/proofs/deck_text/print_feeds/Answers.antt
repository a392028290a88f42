-- A link more has its FEED cards written after those of the links before it.
use Rattle.std.proofs.Common.{rules, map, ap, ◌∙◌}
use Rattle.transyt_io.proofs.LoopLaws.{item_printed, item_broken, items_printed}
use Rattle.transyt_io.proofs.PrintLaws.{prints_same}
use Rattle.transyt_deck.specs.Cards.{cards_text, feed_cards}
use Rattle.transyt_deck.specs.declared.card.Card.TheVariants as card
use Rattle.transyt_deck.proofs.CardLines.{lines_of_map}
use Rattle.transyt_deck.proofs.deck_text.print_feeds.Goals as goal

-- one more is written
pub loop-link-preserved : goal.loop-link-preserved
loop-link-preserved g c =
    item_printed (λ l. cards_text (feed_cards l)) c.args.links.now c.loop-link.link-index c.link-item.result c.link-item.result
    _ _ _ c.loop-link-test.true c.link-item.is c.loop-link.invariant
    (prints_same _ _ _ _ _ c.in_ok-print_feeds_of.ensures
    (lines_of_map (card.Feed c.link.inside.number) c.deref.result.now
    ∙ ap (λ fs. cards_text (map (card.Feed c.link.inside.number) fs)) c.deref.ensures.value
    ∙ ap (λ l. cards_text (feed_cards l)) c.link.view_is))

-- the text broke off in this one
pub returns-in_err-print_feeds_of : goal.returns-in_err-print_feeds_of
returns-in_err-print_feeds_of g c =
    item_broken _ (tt {0}) (λ l. cards_text (feed_cards l)) c.args.links.now c.loop-link.link-index c.link-item.result
    c.link-item.result _ _ _ c.from_residual.ensures.0 c.loop-link-test.true c.link-item.is c.loop-link.invariant
    (prints_same _ _ _ _ _ c.in_err-print_feeds_of.ensures
    (lines_of_map (card.Feed c.link.inside.number) c.deref.result.now
    ∙ ap (λ fs. cards_text (map (card.Feed c.link.inside.number) fs)) c.deref.ensures.value
    ∙ ap (λ l. cards_text (feed_cards l)) c.link.view_is))

-- all are written
pub returns : goal.returns
returns g c = search (rules, items_printed)
