-- The links before this one have their YIELD cards written.
use Rattle.std.proofs.Common.{take, flat_map}
use Rattle.transyt_io.specs.Prints.{Printed}
use Rattle.transyt_deck.specs.Cards.{cards_text, rule_cards}
use Rattle.transyt_deck.proofs.deck_text.print_rules.Given as goal

abbrev pub invariant-loop-link : goal.invariant-loop-link
invariant-loop-link g l =
    Printed (g.K.Sink.written l.fn.sink) (g.K.Sink.written l.sink) (g.K.Sink.faults l.fn.sink) (g.K.Sink.faults l.sink)
    (flat_map (λ k. cards_text (rule_cards k)) (take l.link-index l.links))
