-- A link more has its YIELD card written, if it has a rule, after those of the links before it.
use Rattle.std.proofs.Common.{rules}
use Rattle.transyt_io.proofs.LoopLaws.{item_printed, item_broken, items_printed}
use Rattle.transyt_deck.specs.Cards.{cards_text, rule_cards}
use Rattle.transyt_deck.proofs.deck_text.print_rules.Goals as goal

-- one more is written
pub loop-link-preserved : goal.loop-link-preserved
loop-link-preserved g c =
    item_printed (λ l. cards_text (rule_cards l)) c.args.links.now c.loop-link.link-index c.link-item.result c.link-item.result _ _ _
    c.loop-link-test.true c.link-item.is c.loop-link.invariant c.in_ok-print_rule.ensures

-- the text broke off in this one
pub returns-in_err-print_rule : goal.returns-in_err-print_rule
returns-in_err-print_rule g c =
    item_broken _ (tt {0}) (λ l. cards_text (rule_cards l)) c.args.links.now c.loop-link.link-index c.link-item.result c.link-item.result _ _ _
    c.from_residual.ensures.0 c.loop-link-test.true c.link-item.is c.loop-link.invariant c.in_err-print_rule.ensures

-- all are written
pub returns : goal.returns
returns g c = search (rules, items_printed)
