-- The keyword finds its row of the table, and the tests in order find the first code of that row.
use Rattle.std.proofs.Common.{◌≡◌, sym, ◌∙◌, ap, false}
use Rattle.transyt_io.specs.Lines.{is_skipped}
use Rattle.transyt_syntax.specs.Syntax.{said}
use Rattle.transyt_syntax.proofs.Says.{found_of, kept_says}
use Rattle.transyt_deck.specs.Cards.{cards}
use Rattle.transyt_deck.proofs.card.read_card.Goals as goal

-- the entry that is found is the table's
pub returns-clause-card : goal.returns-clause-card
returns-clause-card c =
    let table = cards c.args.form in
    let words = c.of-words.result in
    let kept : is_skipped words.line.now ≡ false =
    ap is_skipped c.of-words.ensures ∙ sym c.is_skipped.ensures ∙ c.if-is_skipped.false in
    c.say.ensures.says table (found_of table words.line.now _ _ _ c.card_named.ensures.card words.first)
    ∙ kept_says table words.line.now kept
    ∙ ap (said table) c.of-words.ensures
