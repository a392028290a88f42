-- The links, one after another.
use Rattle.std.proofs.Common.{◌≡◌, map}
use Rattle.std.specs.List.{range_with_len}
use Rattle.transyt_track.specs.Own.{places_at}
use Rattle.transyt_track.proofs.own.all_places.Given as goal

abbrev pub invariant-loop-link : goal.invariant-loop-link
invariant-loop-link l = l.places.items ≡ map (places_at l.net) (range_with_len 0 l.link)
