-- A line is one step of the deck, so what it answers is what the deck with the line says.
use Rattle.std.proofs.Common.{◌≡◌, true, sym, subst, ◌∙◌, ap, not, is_some, Err}
use Rattle.transyt_syntax.specs.declared.code.Code.{Code}
use Rattle.transyt_deck.specs.declared.state.Stop.{Stop}
use Rattle.transyt_deck.specs.Adds.{Adds}
use Rattle.transyt_deck.specs.Deck.{code_of, next, ReaderValue}
use Rattle.transyt_deck.specs.State.{state_after}
use Rattle.transyt_deck.proofs.Adding.{still_fits}
use Rattle.transyt_deck.proofs.reader.CardReader.take.Goals as goal

-- out of memory only at a line without a code
pub returns-in-Err-Memory-clause-answer : goal.returns-in-Err-Memory-clause-answer
returns-in-Err-Memory-clause-answer c =
    let reader = c.self.inside in
    let line = c.args.line.now in
    let live : reader.live ≡ true = ap (λ (r : ReaderValue). r.live) c.self.view_is ∙ c.requires.live in
    let adds = subst (λ (s : Stop Code). Adds {T = Unit {0}} (state_after reader.state line) reader.state c.take_line.new.state (Err s))
    c.in-Err-Memory.field-0-is c.in-Err-Memory.ensures.adds in
    ap (λ (r : ReaderValue). not (is_some (code_of (next r.deck line)))) (sym c.self.view_is)
    ∙ still_fits reader.taken reader.state line (c.self.invariant.1 live) adds.0
