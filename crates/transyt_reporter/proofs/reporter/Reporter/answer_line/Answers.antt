-- A line is a command, or one of the deck.
use Rattle.std.proofs.Common.{◌≡◌, ◌+◌, Option, None, Some, IfSome, IfOk, OnOk, refl, sym, ◌∙◌, ap, subst}
use Rattle.std.proofs.lemmas.Result.{IfOk-at_ok}
use Rattle.transyt_desks.specs.Desks.{desk_zero}
use Rattle.transyt_outcome.specs.Runs.{LineAnswered}
use Rattle.transyt_line_answers.specs.Report.{InDeck, InSession, deck_answering, line_steps}
use Rattle.transyt_reporter.specs.Reporter.{ReporterValue, AreKept, state_of, reporter_of}
use Rattle.transyt_reporter.proofs.Answered.{session_is, deck_is, line_told, command_cost}
use Rattle.transyt_reporter.proofs.reporter.Reporter.answer_line.Goals as goal

-- a place that isn't taken is empty
none_is : {A : Type 0} (o : Option A) → ((x : A) → o ≡ Some x → ⊥) → o ≡ None
none_is None never = refl
none_is (Some x) never = absurd (never x refl)

-- a command is answered
pub returns-in-Some-clause-whole : goal.returns-in-Some-clause-whole
returns-in-Some-clause-whole g c =
    let old = c.self.inside in
    let told = c.answer_command.ensures in
    let is = ap state_of (sym c.self.view_is) ∙ session_is (reporter_of old.writer.workers.count old.lines old.cards old.desks) c.in-Some.desks c.in-Some.is in
    subst (λ s. IfOk c.answer_command.result (LineAnswered deck_answering s (InSession (desk_zero c.answer_command.new.desks))
    (g.K.Sink.written c.args.sink.now) (g.K.Sink.written c.answer_command.new.sink) c.args.line.now)) (sym is)
    (line_told c.answer_command.result (InSession (desk_zero c.in-Some.desks)) _ _ _ _ told.prints.ok told.ends (λ goes. ap InSession (IfOk-at_ok _ goes told.state)))

-- and its steps
pub returns-in-Some-clause-steps : goal.returns-in-Some-clause-steps
returns-in-Some-clause-steps g c one =
    let old = c.self.inside in
    let told = c.answer_command.ensures in
    let kept : AreKept old.writer.workers.count old.lines c.in-Some.desks =
    subst (λ o. IfSome o (AreKept old.writer.workers.count old.lines)) c.in-Some.is c.self.invariant.desks in
    let is = ap state_of (sym c.self.view_is) ∙ session_is (reporter_of old.writer.workers.count old.lines old.cards old.desks) c.in-Some.desks c.in-Some.is in
    subst (λ s. OnOk c.answer_command.result (c.answer_command.new.steps ≡ c.args.steps.now + line_steps s c.args.line.now)) (sym is)
    (command_cost c.answer_command.result (desk_zero c.in-Some.desks) (desk_zero c.answer_command.new.desks) c.args.line.now
    c.args.steps.now c.answer_command.new.steps told.state
    (told.leaves.made (kept.len ∙ ap (λ (r : ReporterValue). r.workers) c.self.view_is ∙ one)))

-- a line of the deck is answered
pub returns-clause-whole : goal.returns-clause-whole
returns-clause-whole g c =
    let old = c.self.inside in
    let told = c.answer_card.ensures in
    let none = none_is c.self.inside.desks c.in_default.not-Some in
    let is = ap state_of (sym c.self.view_is) ∙ deck_is (reporter_of old.writer.workers.count old.lines old.cards old.desks) none in
    subst (λ s. IfOk c.answer_card.result (LineAnswered deck_answering s (state_of c.answer_card.new.self)
    (g.K.Sink.written c.args.sink.now) (g.K.Sink.written c.answer_card.new.sink) c.args.line.now)) (sym is)
    (line_told c.answer_card.result (InDeck old.cards.deck) _ _ _ _ told.answers.ok told.answers.ends told.state)

-- without memory nothing was written, and END isn't answered
pub returns-clause-silent : goal.returns-clause-silent
returns-clause-silent g c failed = (
  ap (λ (r : ReporterValue). r.desks) (sym c.self.view_is) ∙ none_is c.self.inside.desks c.in_default.not-Some,
  c.answer_card.ensures.silent failed,
)
