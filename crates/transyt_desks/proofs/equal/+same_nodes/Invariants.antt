-- Each call has one node fewer.
use Rattle.std.proofs.Common.{length}
use Rattle.transyt_desks.proofs.equal.+same_nodes.Given as goal

-- those that are left
abbrev pub decreases-same_nodes : goal.decreases-same_nodes
decreases-same_nodes l = length l.a.now
