-- The moves counted and those of the nodes to come are all.
use Rattle.std.proofs.Common.{◌≡◌, ℕ, ◌+◌, ◌*◌, ◌≤◌, length, drop}
use Rattle.transyt_moves.specs.Moves.{size_moves}
use Rattle.transyt_moves.proofs.listed.nodes_count.Given as goal

-- those of the nodes so far, before those of the rest, are all
abbrev pub invariant-loop-node : goal.invariant-loop-node
invariant-loop-node l = record {
  count : (size : ℕ) → length (size_moves l.nodes.step_count l.nodes.list.now size)
      ≡ l.count + length (size_moves l.nodes.step_count (drop l.node-index l.nodes.list.now) size);
  most : l.count ≤ 18 * l.node-index;
}
