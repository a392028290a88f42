-- Each call has one node fewer.
use Rattle.std.proofs.Common.{length}
use Rattle.transyt_parts.proofs.shape.+same_nodes.Given as goal

abbrev pub decreases-same_nodes : goal.decreases-same_nodes
decreases-same_nodes l = length l.a.now
