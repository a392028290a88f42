-- The desks are those of the network that the deck gave.
use Rattle.std.proofs.Common.{◌≡◌, ℕ, ◌+◌, ◌≤◌, List, refl, sym, ◌∙◌, ap, subst}
use Rattle.std.proofs.lemmas.Result.{IfOk-weaker, on_ok_weaker, on_err_weaker}
use Rattle.transyt_session.specs.Session.{SessionValue, opened}
use Rattle.transyt_desks.specs.Desks.{desk_zero, opened_desks}
use Rattle.transyt_line_answers.specs.Report.{InSession, run_of, deck_steps}
use Rattle.transyt_reporter.specs.Reporter.{AreKept}
use Rattle.transyt_reporter.proofs.OpenedLaws.{opened_is, opened_kept}
use Rattle.transyt_reporter.proofs.workers.Workers.desks_of_deck.Goals as goal

pub returns : goal.returns
returns g c =
    let net = c.in-Ok.net in
    let made = c.desks_of.ensures in
    let F : List SessionValue → Type 0 = λ desks. desks ≡ opened_desks (opened net) c.args.self.now.count in
    let G : List SessionValue → Type 0 = λ desks. run_of c.args.cards.deck ≡ InSession (desk_zero desks) in
    let K : List SessionValue → Type 0 = λ desks. AreKept c.args.self.now.count 0 desks in
    let kept = opened_kept (opened net) c.args.self.now.count c.args.self.now.some refl refl in
    let deck = (opened_is c.args.cards.deck net (sym (sym c.in-Ok.is ∙ c.finish.ensures))).1 in
    let steps = ap deck_steps deck in
    record {
      zero = IfOk-weaker c.desks_of.result F G
          (λ (desks : List SessionValue) (is : F desks). ap run_of deck ∙ ap (λ (d : List SessionValue). InSession (desk_zero d)) (sym is))
          made.value;
      kept = IfOk-weaker c.desks_of.result F K (λ (desks : List SessionValue) (is : F desks). subst K (sym is) kept) made.value;
      ok = on_ok_weaker c.desks_of.result (λ all. all ∙ ap (λ (n : ℕ). c.args.steps.now + n) (sym steps)) made.ok;
      err = on_err_weaker c.desks_of.result (λ some. subst (λ (n : ℕ). c.desks_of.new.steps ≤ c.args.steps.now + n) (sym steps) some) made.err;
    }
