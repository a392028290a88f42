-- The climber's start, and its budget.
use Rattle.std.proofs.Common.{sym, ◌∙◌}
use Rattle.transyt_reporter.proofs.MoveLaws.{budget_small, start_is}
use Rattle.transyt_reporter.proofs.climbing.start_climber.Goals as goal

-- the start
pub returns-clause-start : goal.returns-clause-start
returns-clause-start c =
    start_is c.args.net.now c.args.net.now.plan c.in-Some.climber (sym c.in-Some.is ∙ c.start.ensures)

-- the budget
pub returns-clause-few : goal.returns-clause-few
returns-clause-few c = budget_small c.args.net.now c.plan-plan.ensures.valid
