-- The links before this one have their cards written.
use Rattle.std.proofs.Common.{take, flat_map}
use Rattle.transyt_io.specs.Prints.{Printed}
use Rattle.transyt_deck.specs.Cards.{card_line, link_card}
use Rattle.transyt_deck.proofs.deck_text.print_links.Given as goal

abbrev pub invariant-loop-link : goal.invariant-loop-link
invariant-loop-link g l =
    Printed (g.K.Sink.written l.fn.sink) (g.K.Sink.written l.sink) (g.K.Sink.faults l.fn.sink) (g.K.Sink.faults l.sink)
    (flat_map (λ k. card_line (link_card k)) (take l.link-index l.links))
