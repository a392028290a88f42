-- What the table says of a keyword.
use Rattle.std.proofs.Common.{◌≤◌, ◌≡◌, true, length}
use Rattle.std.proofs.lemmas.Option.{IfSome_then}
use Rattle.transyt_syntax.specs.Syntax.{is_count}
use Rattle.transyt_deck.specs.Adds.{CanAdd}
use Rattle.transyt_deck.proofs.NamedCards.{IsRight, right}
use Rattle.transyt_deck.proofs.card.card_named.Goals as goal

-- at most 17 numbers
pub returns-clause-most : goal.returns-clause-most
returns-clause-most c =
    IfSome_then _ {P = IsRight c.args.ns.now} {Q = λ found. found.0.1 ≤ 17}
    (right c.args.form c.args.keyword.now c.args.ns.now _ c.entry_named.ensures) (λ found is. is.0)

-- a card that can be added
pub returns-clause-counts : goal.returns-clause-counts
returns-clause-counts c =
    IfSome_then _ {P = IsRight c.args.ns.now}
    {Q = λ found. is_count found.0 (length c.args.ns.now) ≡ true → CanAdd found.1}
    (right c.args.form c.args.keyword.now c.args.ns.now _ c.entry_named.ensures) (λ found is. is.1)
