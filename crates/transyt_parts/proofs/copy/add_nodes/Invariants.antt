-- The nodes so far are copied.
use Rattle.std.proofs.Common.{◌≡◌, take}
use Rattle.transyt_parts.proofs.copy.add_nodes.Given as goal

abbrev pub invariant-loop-node : goal.invariant-loop-node
invariant-loop-node l = l.copy.items ≡ take l.node-index l.nodes
