-- The feeds before this one have their cards written.
use Rattle.std.proofs.Common.{take, flat_map}
use Rattle.transyt_io.specs.Prints.{Printed}
use Rattle.transyt_deck.specs.Cards.{card_line}
use Rattle.transyt_deck.specs.declared.card.Card.TheVariants as card
use Rattle.transyt_deck.proofs.deck_text.print_feeds_of.Given as goal

abbrev pub invariant-loop-feed : goal.invariant-loop-feed
invariant-loop-feed g l =
    Printed (g.K.Sink.written l.fn.sink) (g.K.Sink.written l.sink) (g.K.Sink.faults l.fn.sink) (g.K.Sink.faults l.sink)
    (flat_map (λ f. card_line (card.Feed l.link f)) (take l.feed-index l.feeds))
