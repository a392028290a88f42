-- No feed before the place has the feeder.
use Rattle.std.proofs.Common.{◌≡◌, ◌<◌, ℕ, false, nat_eq, get_or}
use Rattle.transyt_parts.specs.declared.link.Feed.{Feed}
use Rattle.transyt_net.proofs.edit.feed_place.Given as goal

abbrev pub invariant-loop-place : goal.invariant-loop-place
invariant-loop-place l = (k : ℕ) (d : Feed) → k < l.place → nat_eq l.feeder (get_or l.feeds k d).feeder ≡ false
