-- The move sought is the one at the place left among the nodes to come.
use Rattle.std.proofs.Common.{◌≡◌, ◌<◌, length, drop, get_or}
use Rattle.transyt_moves.specs.Moves.{size_moves, no_move}
use Rattle.transyt_moves.proofs.listed.size_move.Given as goal

-- the rest of the place counts among the moves of the nodes from here on
abbrev pub invariant-loop-node : goal.invariant-loop-node
invariant-loop-node l = record {
  inside : l.left < length (size_moves l.moves.nodes.step_count (drop l.node-index l.moves.nodes.list.now) l.moves.size);
  same : get_or (size_moves l.moves.nodes.step_count l.moves.nodes.list.now l.moves.size) l.place no_move
      ≡ get_or (size_moves l.moves.nodes.step_count (drop l.node-index l.moves.nodes.list.now) l.moves.size) l.left
      no_move;
}
