-- The links, one after another.
use Rattle.std.proofs.Common.{◌≡◌, ◌<◌, ◌≤◌, ℕ, length}
use Rattle.transyt_track.specs.Front.{flag, own_differs}
use Rattle.transyt_track.proofs.starting.flag_fed.Given as goal

-- those so far are flagged, and the flags of those that follow are as they were
abbrev pub invariant-loop-link : goal.invariant-loop-link
invariant-loop-link l = record {
  count : length l.own_changed.items ≡ length l.change.after.now.links;
  flagged : (m : ℕ) → m < l.link → flag l.own_changed.items m ≡ own_differs l.change.before.now l.change.after.now m;
  others : (m : ℕ) → l.link ≤ m → flag l.own_changed.items m ≡ flag l.fn.own_changed.items m;
}
