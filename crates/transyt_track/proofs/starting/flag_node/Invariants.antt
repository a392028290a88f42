-- The links, one after another.
use Rattle.std.proofs.Common.{◌≡◌, ◌↔◌, ◌<◌, ℕ, false, length}
use Rattle.transyt_track.specs.Own.{HaveData}
use Rattle.transyt_track.specs.Front.{flag}
use Rattle.transyt_track.proofs.starting.flag_node.Given as goal

abbrev pub invariant-loop-link : goal.invariant-loop-link
invariant-loop-link l = record {
  count : length l.own_changed.items ≡ length l.change.after.now.links;
  down : (m : ℕ) → m < l.link
      → (flag l.own_changed.items m ≡ false ↔ HaveData l.change.before.now l.change.after.now m);
}
