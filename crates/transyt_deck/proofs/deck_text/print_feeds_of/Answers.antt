-- A feed more has its card written after those of the feeds before it.
use Rattle.std.proofs.Common.{rules, refl}
use Rattle.transyt_io.proofs.LoopLaws.{item_printed, item_broken, items_printed}
use Rattle.transyt_net.specs.Edits.{no_feed}
use Rattle.transyt_deck.specs.Cards.{card_line}
use Rattle.transyt_deck.specs.declared.card.Card.TheVariants as card
use Rattle.transyt_deck.proofs.deck_text.print_feeds_of.Goals as goal

-- one more is written
pub loop-feed-preserved : goal.loop-feed-preserved
loop-feed-preserved g c =
    item_printed (λ f. card_line (card.Feed c.args.link f)) c.args.feeds.now c.loop-feed.feed-index no_feed _ _ _ _
    c.loop-feed-test.true refl c.loop-feed.invariant c.in_ok-print_feed.ensures

-- the text broke off in this one
pub returns-in_err-print_feed : goal.returns-in_err-print_feed
returns-in_err-print_feed g c =
    item_broken _ (tt {0}) (λ f. card_line (card.Feed c.args.link f)) c.args.feeds.now c.loop-feed.feed-index no_feed _ _ _ _
    c.from_residual.ensures.0 c.loop-feed-test.true refl c.loop-feed.invariant c.in_err-print_feed.ensures

-- all are written
pub returns : goal.returns
returns g c = search (rules, items_printed)
