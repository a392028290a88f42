-- The word's answer to the deck's case is that to the input, by the cut.
use Rattle.std.proofs.Common.{◌≡◌, ℕ, List, Result, IfOk, sym, subst}
use Rattle.transyt_deck.specs.declared.reader.CardStop.{CardStop}
use Rattle.transyt_deck.specs.declared.cut.Cut.{Cut}
use Rattle.transyt_words.specs.Whole.{answer_of_cut}
use Rattle.transyt_words.proofs.hosted.HostedWord.judge_deck.Goals as goal

pub returns-in-Ok-clause-answer : goal.returns-in-Ok-clause-answer
returns-in-Ok-clause-answer g c =
    let answer = g.W.DeckWord.answer c.args.self.now.word in
    let P : Result Cut CardStop → Type 0 = λ cut. IfOk c.judge-found.result (λ found.
    found ≡ answer_of_cut answer c.args.input.now cut) in
    let Q : List ℕ → Type 0 = λ table. IfOk c.judge-found.result (λ found.
    found ≡ answer (record { net = c.in-Ok.cut.net; line = c.in-Ok.cut.line; table = table })) in
    subst P (sym c.in-Ok.ensures.cut) (subst Q c.bytes_from.ensures c.judge-found.ensures.answer)
