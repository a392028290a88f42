-- The flags so far are down.
use Rattle.std.proofs.Common.{◌≡◌, false, take}
use Rattle.std.specs.List.{list_any}
use Rattle.transyt_track.specs.Front.{flag}
use Rattle.transyt_track.proofs.reading.any_changed.Given as goal

abbrev pub invariant-loop-place : goal.invariant-loop-place
invariant-loop-place l = list_any (flag l.changed) (take l.place-index l.places) ≡ false
