-- The demand so far is that of the links before the place.
use Rattle.std.proofs.Common.{◌≡◌, take}
use Rattle.std.specs.List.{fold}
use Rattle.transyt_equisat.specs.Sharing.{heavier_of, no_demand}
use Rattle.transyt_equisat.proofs.demand.demand_in.Given as goal

abbrev pub invariant-loop-place : goal.invariant-loop-place
invariant-loop-place l = l.demand ≡ fold (heavier_of l.number l.stage) no_demand (take l.place l.net.links)
