-- A plot, and the deck's text.
use Rattle.std.proofs.Common.{sym, ◌∙◌, ap}
use Rattle.transyt_deck.specs.Cards.{deck_text}
use Rattle.transyt_io.proofs.PrintLaws.{prints_same}
use Rattle.transyt_line_answers.specs.Commands.{answer_text}
use Rattle.transyt_line_answers.proofs.writing.write_text.Goals as goal

-- a plot
pub returns-in-Plot : goal.returns-in-Plot
returns-in-Plot g c =
    prints_same _ _ c.plot.result _ _ c.plot.ensures (ap (answer_text c.args.session.now) (sym c.in-Plot.is))

-- the deck's text
pub returns-in-Deck : goal.returns-in-Deck
returns-in-Deck g c =
    let told = c.print_deck.ensures.prints in
    prints_same _ _ c.print_deck.result (deck_text c.net.result.now) _
    (record { ok = told.ok; err = told.err; cause = told.cause })
    (ap deck_text c.net.ensures ∙ ap (answer_text c.args.session.now) (sym c.in-Deck.is))
