-- The steps, one after another.
use Rattle.std.proofs.Common.{◌≡◌, nat_eq, take}
use Rattle.std.specs.Str.{bytes_eq}
use Rattle.transyt_track.proofs.front.differ.Given as goal

-- no bit is up exactly where the steps so far are equal
abbrev pub invariant-loop-i : goal.invariant-loop-i
invariant-loop-i l = nat_eq l.bits 0 ≡ bytes_eq (take l.i l.one) (take l.i l.other)
