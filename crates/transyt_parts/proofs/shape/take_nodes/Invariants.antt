-- The nodes before the place are taken, and the two lists have one shape.
use Rattle.std.proofs.Common.{◌≡◌, ◌<◌, ℕ, map, get_or}
use Rattle.transyt_parts.specs.Parts.{NodeValue}
use Rattle.transyt_parts.specs.Made.{bare_node}
use Rattle.transyt_parts.proofs.shape.take_nodes.Given as goal

abbrev pub invariant-loop-place : goal.invariant-loop-place
invariant-loop-place l = record {
  done : (k : ℕ) (d : NodeValue) → k < l.place → get_or l.nodes k d ≡ get_or l.from k d;
  alike : map bare_node l.nodes ≡ map bare_node l.from;
}
