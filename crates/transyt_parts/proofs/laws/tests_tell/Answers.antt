-- A node and a climb plan, by their laws.
use Rattle.transyt_parts.proofs.KeptLaws.{node_kept, plan_kept}
use Rattle.transyt_parts.proofs.laws.tests_tell.Goals as goal

pub returns-clause-nodes : goal.returns-clause-nodes
returns-clause-nodes c = node_kept

pub returns-clause-plans : goal.returns-clause-plans
returns-clause-plans c = plan_kept
