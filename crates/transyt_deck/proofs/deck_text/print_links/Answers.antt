-- A link more has its card written after those of the links before it.
use Rattle.std.proofs.Common.{rules}
use Rattle.transyt_io.proofs.LoopLaws.{item_printed, item_broken, items_printed}
use Rattle.transyt_deck.specs.Cards.{card_line, link_card}
use Rattle.transyt_deck.proofs.deck_text.print_links.Goals as goal

-- one more is written
pub loop-link-preserved : goal.loop-link-preserved
loop-link-preserved g c =
    item_printed (λ l. card_line (link_card l)) c.args.links.now c.loop-link.link-index c.link-item.result c.link-item.result _ _ _
    c.loop-link-test.true c.link-item.is c.loop-link.invariant c.in_ok-print_link.ensures

-- the text broke off in this one
pub returns-in_err-print_link : goal.returns-in_err-print_link
returns-in_err-print_link g c =
    item_broken _ (tt {0}) (λ l. card_line (link_card l)) c.args.links.now c.loop-link.link-index c.link-item.result c.link-item.result _ _ _
    c.from_residual.ensures.0 c.loop-link-test.true c.link-item.is c.loop-link.invariant c.in_err-print_link.ensures

-- all are written
pub returns : goal.returns
returns g c = search (rules, items_printed)
