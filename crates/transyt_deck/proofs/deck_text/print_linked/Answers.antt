-- The parts are written one after another; where one breaks off, a front of the whole is written.
use Rattle.transyt_io.proofs.PrintLaws.{prints_both, prints_front}
use Rattle.transyt_deck.proofs.deck_text.print_linked.Goals as goal

-- the text broke off in the links
pub returns-in_err-print_links : goal.returns-in_err-print_links
returns-in_err-print_links g c = prints_front _ _ _ c.from_residual.ensures.0 c.in_err-print_links.ensures

-- the text broke off in the feeds
pub returns-in_err-print_feeds : goal.returns-in_err-print_feeds
returns-in_err-print_feeds g c =
    prints_both _ _ _ c.in_ok-print_links.ensures
    (prints_front _ _ _ c.from_residual-in_err-print_feeds.ensures.0 c.in_err-print_feeds.ensures)

-- the text broke off in the give-way rules
pub returns-in_err-print_rules : goal.returns-in_err-print_rules
returns-in_err-print_rules g c =
    prints_both _ _ _ c.in_ok-print_links.ensures
    (prints_both _ _ _ c.in_ok-print_feeds.ensures
    (prints_front _ _ _ c.from_residual-in_err-print_rules.ensures.0 c.in_err-print_rules.ensures))

-- the text broke off in the climb plan
pub returns-in_err-print_plan : goal.returns-in_err-print_plan
returns-in_err-print_plan g c =
    prints_both _ _ _ c.in_ok-print_links.ensures
    (prints_both _ _ _ c.in_ok-print_feeds.ensures
    (prints_both _ _ _ c.in_ok-print_rules.ensures
    (prints_front _ _ _ c.from_residual-in_err-print_plan.ensures.0 c.in_err-print_plan.ensures)))

-- one part after the other
pub returns : goal.returns
returns g c =
    prints_both _ _ _ c.in_ok-print_links.ensures
    (prints_both _ _ _ c.in_ok-print_feeds.ensures
    (prints_both _ _ _ c.in_ok-print_rules.ensures
    (prints_both _ _ _ c.in_ok-print_plan.ensures c.print_card.ensures)))
