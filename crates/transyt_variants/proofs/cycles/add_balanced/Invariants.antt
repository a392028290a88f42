-- The nodes before this one are made.
use Rattle.std.proofs.Common.{◌≡◌, map}
use Rattle.std.specs.List.{range_with_len}
use Rattle.transyt_variants.specs.Cycles.{balanced_node}
use Rattle.transyt_variants.proofs.cycles.add_balanced.Given as goal

abbrev pub invariant-loop-place : goal.invariant-loop-place
invariant-loop-place l = l.nodes.items ≡ map (balanced_node l.net) (range_with_len 0 l.place)
