-- It is shown at the step reached, or at none.
use Rattle.std.proofs.Common.{◌≡◌, ◌+◌, Bool, List, sym, ◌∙◌, false, get_or, length, arith}
use borrow.Author.Count.{below_more}
use Rattle.transyt_cycle.specs.Cycle.{minus_mod}
use Rattle.transyt_parts.proofs.BelowLaws.{none_below, some_below}
use Rattle.transyt_stage.proofs.green.is_held.Goals as goal

-- at the step reached
pub returns-then-before : goal.returns-then-before
returns-then-before c =
    let steps : List Bool = c.args.at.now.shown.steps.now in
    sym (some_below (λ n. get_or steps (minus_mod (length steps) c.args.at.now.step n) false) (c.args.at.now.shown.end_lag + 1)
    c.loop-back.back c.loop-back-test.true
    ((λ j. get_or (sym c.step_back-before.ensures.shown j) (sym c.step_back-before.ensures.step j) false)
    ∙ c.if-before.true))

-- not at it
pub loop-back-preserved : goal.loop-back-preserved
loop-back-preserved c =
    let steps : List Bool = c.args.at.now.shown.steps.now in
    below_more (λ k. get_or steps (minus_mod (length steps) c.args.at.now.step k) false ≡ false) c.loop-back.back
    c.loop-back.invariant
    ((λ j. get_or (sym c.step_back-before.ensures.shown j) (sym c.step_back-before.ensures.step j) false)
    ∙ c.if-before.false)

pub returns : goal.returns
returns c =
    let steps : List Bool = c.args.at.now.shown.steps.now in
    sym (none_below (λ n. get_or steps (minus_mod (length steps) c.args.at.now.step n) false) (c.args.at.now.shown.end_lag + 1)
    (λ k less. c.loop-back.invariant k (omega arith)))
