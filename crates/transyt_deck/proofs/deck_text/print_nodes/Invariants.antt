-- The nodes before this one have their cards written.
use Rattle.std.proofs.Common.{take, flat_map}
use Rattle.transyt_io.specs.Prints.{Printed}
use Rattle.transyt_deck.specs.Cards.{cards_text, node_cards}
use Rattle.transyt_deck.proofs.deck_text.print_nodes.Given as goal

abbrev pub invariant-loop-node : goal.invariant-loop-node
invariant-loop-node g l =
    Printed (g.K.Sink.written l.fn.sink) (g.K.Sink.written l.sink) (g.K.Sink.faults l.fn.sink) (g.K.Sink.faults l.sink)
    (flat_map (λ n. cards_text (node_cards n)) (take l.node-index l.nodes))
