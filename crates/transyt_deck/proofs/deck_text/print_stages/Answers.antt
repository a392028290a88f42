-- A stage more has its card written after those of the stages before it.
use Rattle.std.proofs.Common.{rules, refl}
use Rattle.transyt_io.proofs.LoopLaws.{item_printed, item_broken, items_printed}
use Rattle.transyt_parts.specs.Plan.{no_stage}
use Rattle.transyt_deck.specs.Cards.{card_line}
use Rattle.transyt_deck.specs.declared.card.Card.TheVariants as card
use Rattle.transyt_deck.proofs.deck_text.print_stages.Goals as goal

-- one more is written
pub loop-stage-preserved : goal.loop-stage-preserved
loop-stage-preserved g c =
    item_printed (λ s. card_line (card.Stage s)) c.args.stages.now c.loop-stage.stage-index no_stage _ _ _ _
    c.loop-stage-test.true refl c.loop-stage.invariant c.in_ok-print_stage.ensures

-- the text broke off in this one
pub returns-in_err-print_stage : goal.returns-in_err-print_stage
returns-in_err-print_stage g c =
    item_broken _ (tt {0}) (λ s. card_line (card.Stage s)) c.args.stages.now c.loop-stage.stage-index no_stage _ _ _ _
    c.from_residual.ensures.0 c.loop-stage-test.true refl c.loop-stage.invariant c.in_err-print_stage.ensures

-- all are written
pub returns : goal.returns
returns g c = search (rules, items_printed)
