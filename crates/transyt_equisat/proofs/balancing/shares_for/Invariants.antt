-- The shares of the stages before the place.
use Rattle.std.proofs.Common.{◌≡◌, map}
use Rattle.std.specs.List.{range_with_len}
use Rattle.transyt_equisat.specs.Sharing.{share_by_demand}
use Rattle.transyt_equisat.proofs.balancing.shares_for.Given as goal

abbrev pub invariant-loop-place : goal.invariant-loop-place
invariant-loop-place l = l.shares.items ≡ map (share_by_demand l.here.asked.now l.peak l.here.greens.now) (range_with_len 0 l.place)
