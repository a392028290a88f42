-- A node more has its cards written after those of the nodes before it.
use Rattle.std.proofs.Common.{rules}
use Rattle.transyt_io.proofs.LoopLaws.{item_printed, item_broken, items_printed}
use Rattle.transyt_deck.specs.Cards.{cards_text, node_cards}
use Rattle.transyt_deck.proofs.deck_text.print_nodes.Goals as goal

-- one more is written
pub loop-node-preserved : goal.loop-node-preserved
loop-node-preserved g c =
    item_printed (λ n. cards_text (node_cards n)) c.args.nodes.now c.loop-node.node-index c.node-item.result c.node-item.result _ _ _
    c.loop-node-test.true c.node-item.is c.loop-node.invariant c.in_ok-print_node.ensures

-- the text broke off in this one
pub returns-in_err-print_node : goal.returns-in_err-print_node
returns-in_err-print_node g c =
    item_broken _ (tt {0}) (λ n. cards_text (node_cards n)) c.args.nodes.now c.loop-node.node-index c.node-item.result c.node-item.result _ _ _
    c.from_residual.ensures.0 c.loop-node-test.true c.node-item.is c.loop-node.invariant c.in_err-print_node.ensures

-- all are written
pub returns : goal.returns
returns g c = search (rules, items_printed)
