-- The demands of the stages before the place.
use Rattle.std.proofs.Common.{◌≡◌}
use Rattle.transyt_equisat.specs.Sharing.{demands_of}
use Rattle.transyt_equisat.proofs.demand.demands_of.Given as goal

abbrev pub invariant-loop-place : goal.invariant-loop-place
invariant-loop-place l = l.demands.items ≡ demands_of l.net l.number l.place
