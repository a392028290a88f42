-- No node before this one bars it.
use Rattle.std.proofs.Common.{◌≡◌, drop}
use Rattle.transyt_variants.specs.Cycles.{first_barred}
use Rattle.transyt_variants.proofs.cycles.first_barred.Given as goal

abbrev pub invariant-loop-node : goal.invariant-loop-node
invariant-loop-node l = first_barred l.steps l.net.nodes ≡ first_barred l.steps (drop l.node-index l.net.nodes)
