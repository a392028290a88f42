-- The stages before this one have their cards written.
use Rattle.std.proofs.Common.{take, flat_map}
use Rattle.transyt_io.specs.Prints.{Printed}
use Rattle.transyt_deck.specs.Cards.{card_line}
use Rattle.transyt_deck.specs.declared.card.Card.TheVariants as card
use Rattle.transyt_deck.proofs.deck_text.print_stages.Given as goal

abbrev pub invariant-loop-stage : goal.invariant-loop-stage
invariant-loop-stage g l =
    Printed (g.K.Sink.written l.fn.sink) (g.K.Sink.written l.sink) (g.K.Sink.faults l.fn.sink) (g.K.Sink.faults l.sink)
    (flat_map (λ s. card_line (card.Stage s)) (take l.stage-index l.stages))
