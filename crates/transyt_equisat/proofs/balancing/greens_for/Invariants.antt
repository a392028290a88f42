-- The greens of the stages before the place.
use Rattle.std.proofs.Common.{◌≡◌, map}
use Rattle.std.specs.List.{range_with_len}
use Rattle.transyt_equisat.specs.Sharing.{green_by_demand}
use Rattle.transyt_equisat.proofs.balancing.greens_for.Given as goal

abbrev pub invariant-loop-place : goal.invariant-loop-place
invariant-loop-place l = l.greens.items ≡ map (green_by_demand l.asked l.peak) (range_with_len 0 l.place)
