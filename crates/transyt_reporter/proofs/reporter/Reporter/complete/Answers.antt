-- Without memory nothing was written; else the line of END was, or it broke off.
use Rattle.std.proofs.Common.{◌≡◌, ◌≤◌, ◌+◌, ◌∙◌, ap, sym, arith}
use Rattle.std.proofs.lemmas.Grind.{common_steps}
use Rattle.transyt_deck.specs.Deck.{Deck, ReaderValue}
use Rattle.transyt_session.specs.Session.{SessionValue}
use Rattle.transyt_desks.specs.Desks.{desk_zero}
use Rattle.transyt_line_answers.specs.Report.{deck_steps, run_of}
use Rattle.transyt_reporter.specs.Reporter.{ReporterValue}
use Rattle.transyt_reporter.proofs.CardLaws.{accepted_told, accepted_broken, no_memory}
use Rattle.transyt_reporter.proofs.reporter.Reporter.complete.Goals as goal

-- and no more steps were taken than those of END
pub returns-in_default-clause-answers : goal.returns-in_default-clause-answers
returns-in_default-clause-answers g c =
    let few : c.desks_of_deck.new.steps ≤ c.args.steps.now + deck_steps c.args.self.now.cards.deck =
    grind (arith, common_steps) in
    no_memory _ _ _ _ _ few

-- the line of END
pub returns-clause-answers : goal.returns-clause-answers
returns-clause-answers g c =
    let steps = c.args.steps.now in
    let deck : c.replace-cards.result.deck ≡ c.args.self.now.cards.deck =
    ap (λ (r : ReaderValue). r.deck) c.replace-cards.ensures.value ∙ ap (λ (r : ReporterValue). r.cards.deck) c.self.view_is in
    accepted_told c.args.self.now.cards.deck (desk_zero c.in-Ok.desks) _ steps c.desks_of_deck.new.steps c.requires.complete
    (ap run_of (sym deck) ∙ c.in-Ok.ensures.zero) (c.net-net.ensures ∙ ap (λ (s : SessionValue). s.net) c.session.ensures)
    (c.in-Ok.ensures.ok ∙ ap (λ (d : Deck). steps + deck_steps d) deck) c.in_default-print_accepted.ensures

-- it broke off
pub returns-in-Err-clause-answers : goal.returns-in-Err-clause-answers
returns-in-Err-clause-answers g c =
    let steps = c.args.steps.now in
    let deck : c.replace-cards.result.deck ≡ c.args.self.now.cards.deck =
    ap (λ (r : ReaderValue). r.deck) c.replace-cards.ensures.value ∙ ap (λ (r : ReporterValue). r.cards.deck) c.self.view_is in
    accepted_broken c.args.self.now.cards.deck (desk_zero c.in-Ok.desks) _ steps c.desks_of_deck.new.steps c.requires.complete
    (ap run_of (sym deck) ∙ c.in-Ok.ensures.zero) (c.net-net.ensures ∙ ap (λ (s : SessionValue). s.net) c.session.ensures)
    (c.in-Ok.ensures.ok ∙ ap (λ (d : Deck). steps + deck_steps d) deck) c.in-Err.ensures
