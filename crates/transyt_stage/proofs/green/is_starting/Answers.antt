-- The step reached opens it, or none does.
use Rattle.std.proofs.Common.{◌≡◌, Bool, List, length, sym, ◌∙◌, false, arith}
use borrow.Author.Count.{below_more}
use Rattle.transyt_cycle.specs.Cycle.{minus_mod}
use Rattle.transyt_stage.specs.Green.{opens}
use Rattle.transyt_parts.proofs.BelowLaws.{none_below, some_below}
use Rattle.transyt_stage.proofs.green.is_starting.Goals as goal

-- the step reached does
pub returns-then-opens : goal.returns-then-opens
returns-then-opens c =
    let steps : List Bool = c.args.at.now.shown.steps.now in
    sym (some_below (λ n. opens steps (minus_mod (length steps) c.args.at.now.step n)) c.args.at.now.shown.start_lag
    c.loop-back.back c.loop-back-test.true ((λ j. opens (sym c.step_back.ensures.shown j) (sym c.step_back.ensures.step j)) ∙ sym c.opens.ensures ∙ c.if-opens.true))

-- nor does it
pub loop-back-preserved : goal.loop-back-preserved
loop-back-preserved c =
    let steps : List Bool = c.args.at.now.shown.steps.now in
    below_more (λ k. opens steps (minus_mod (length steps) c.args.at.now.step k) ≡ false) c.loop-back.back c.loop-back.invariant
    ((λ j. opens (sym c.step_back.ensures.shown j) (sym c.step_back.ensures.step j)) ∙ sym c.opens.ensures ∙ c.if-opens.false)

pub returns : goal.returns
returns c =
    let steps : List Bool = c.args.at.now.shown.steps.now in
    sym (none_below (λ n. opens steps (minus_mod (length steps) c.args.at.now.step n)) c.args.at.now.shown.start_lag
    (λ k less. c.loop-back.invariant k (omega arith)))
