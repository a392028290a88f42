-- The nodes before this one are made.
use Rattle.std.proofs.Common.{◌≡◌, take, map}
use Rattle.transyt_variants.specs.Cycles.{bare_plan}
use Rattle.transyt_variants.proofs.bare.add_bare.Given as goal

abbrev pub invariant-loop-node : goal.invariant-loop-node
invariant-loop-node l = l.nodes.items ≡ map (bare_plan l.lengths.before l.lengths.after) (take l.node-index l.from)
