-- Each fault of a plan, by its law.
use Rattle.transyt_parts.proofs.PlanFacts.{planned, few, unordered, short}
use Rattle.transyt_parts.proofs.laws.plans_are_judged.Goals as goal

pub returns-clause-none : goal.returns-clause-none
returns-clause-none c = planned

pub returns-clause-few : goal.returns-clause-few
returns-clause-few c = few

pub returns-clause-order : goal.returns-clause-order
returns-clause-order c = unordered

pub returns-clause-greens : goal.returns-clause-greens
returns-clause-greens c = short
