-- Each call has one node fewer.
use Rattle.std.proofs.Common.{length}
use Rattle.transyt_parts.proofs.stage_plan.+first_fault.Given as goal

abbrev pub decreases-first_fault : goal.decreases-first_fault
decreases-first_fault l = length l.nodes.now
