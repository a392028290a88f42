-- The feeds, one after another.
use Rattle.std.proofs.Common.{◌≡◌, take, map}
use Rattle.transyt_track.specs.Own.{feeder_place}
use Rattle.transyt_track.proofs.own.feeder_places.Given as goal

abbrev pub invariant-loop-feed : goal.invariant-loop-feed
invariant-loop-feed l = l.places.items ≡ map (feeder_place l.net) (take l.feed-index l.feeds)
