-- The numbers of a card are put in two lists, one after the other.
use Rattle.std.proofs.Common.{◌≡◌, ℕ, List, ◌++◌, ap, ◌∙◌, append_assoc}
use Rattle.transyt_io.specs.Forms.{values_text}
use Rattle.transyt_io.proofs.PrintLaws.{prints_same}
use Rattle.transyt_deck.proofs.NumberTexts.{values_both}
use Rattle.transyt_deck.proofs.card_line.print_card.Goals as goal

-- the line that is written has the keyword and all numbers
pub returns : goal.returns
returns g c =
    let keyword = c.args.keyword.now in
    let numbers = c.args.numbers.now in
    let list = c.args.list.now in
    let first : c.put.new.self ≡ keyword = c.put.ensures ∙ ap (λ (l : List ℕ). l ++ keyword) c.clear.ensures in
    let joined = append_assoc keyword (values_text numbers) (values_text list) in
    let written = c.write_line.ensures in
    prints_same _ _ _ c.put-2.new.self _ record { ok = written.ok; err = written.err; cause = written.cause }
    (cc (joined, values_both numbers list))
