-- The flags, one after another.
use Rattle.std.proofs.Common.{◌≡◌, take}
use Rattle.std.specs.List.{list_any}
use Rattle.transyt_track.proofs.starting.any_up.Given as goal

abbrev pub invariant-loop-flag : goal.invariant-loop-flag
invariant-loop-flag l = l.any ≡ list_any (λ f. f) (take l.flag-index l.flags)
