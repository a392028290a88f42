-- How a line of the deck is answered; the reader has taken at most the lines that are counted.
use Rattle.std.proofs.Common.{◌<◌, IsTrue, arith, sym, subst}
use Rattle.transyt_deck.specs.Deck.{is_open, line_count, next}
use Rattle.transyt_reporter.specs.Reporter.{ReporterValue}
use Rattle.transyt_reporter.proofs.CardLaws.{no_memory, open_answered}
use Rattle.transyt_reporter.proofs.CountLaws.{taken_reporter}
use Rattle.transyt_reporter.proofs.reporter.Reporter.answer_card.Goals as goal

-- after a line that isn't END
pub invariant_of-self : goal.invariant_of-self
invariant_of-self g c =
    let P : ReporterValue → Type 0 = λ r. line_count r.cards.deck < r.lines in
    taken_reporter _ c.take.new.self c.args.line.now c.self.invariant (subst P (sym c.self.view_is) c.requires.counted)
    c.in-Ok-More.ensures.taken

-- after END
pub invariant_of-self-in-Ok-Complete : goal.invariant_of-self-in-Ok-Complete
invariant_of-self-in-Ok-Complete g c =
    let P : ReporterValue → Type 0 = λ r. line_count r.cards.deck < r.lines in
    taken_reporter _ c.take.new.self c.args.line.now c.self.invariant (subst P (sym c.self.view_is) c.requires.counted)
    c.in-Ok-Complete.ensures.taken

-- a line that isn't END writes nothing
pub returns-in-Ok-More-clause-answers : goal.returns-in-Ok-More-clause-answers
returns-in-Ok-More-clause-answers g c =
    let told = rw c.in-Ok-More.field-0-is at c.in-Ok-More.ensures in
    let P : ReporterValue → Type 0 = λ r. IsTrue (is_open (next r.cards.deck c.args.line.now)) in
    open_answered _ _ _ _ (subst P c.self.view_is told.answer)

-- without memory nothing is written
pub returns-in-Err-Memory-clause-answers : goal.returns-in-Err-Memory-clause-answers
returns-in-Err-Memory-clause-answers g c = no_memory _ _ _ _ _ (omega arith)
