-- The draft refuses a card by the fault that the deck refuses it by, else it has what the card brings.
use Rattle.std.proofs.Common.{rules, sym, ◌∙◌}
use Rattle.transyt_deck.proofs.Adding.{adds_stopped, adds_taken}
use Rattle.transyt_deck.proofs.state.add_to.Goals as goal

-- the network refuses the card, or has no memory for it
pub returns-in_err-stopped-clause-adds : goal.returns-in_err-stopped-clause-adds
returns-in_err-stopped-clause-adds c =
    adds_stopped c.args.part.now c.args.card.now c.args.draft.now _ c.enter.result _ _ _ c.in_default.not-End
    (sym c.takes.ensures ∙ c.if-not-takes.false) c.enter.ensures.refuses c.enter.ensures.err c.stopped.ensures
    c.in_err-stopped.was c.from_residual.ensures.1

-- the network has what the card brings
pub returns-clause-adds : goal.returns-clause-adds
returns-clause-adds c = search (rules, adds_taken)
