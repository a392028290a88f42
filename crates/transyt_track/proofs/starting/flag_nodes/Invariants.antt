-- The nodes, one after another.
use Rattle.std.proofs.Common.{◌≡◌, ◌↔◌, ◌<◌, ℕ, false, length}
use Rattle.transyt_track.specs.Own.{HaveNode}
use Rattle.transyt_track.specs.Front.{flag}
use Rattle.transyt_track.proofs.starting.flag_nodes.Given as goal

abbrev pub invariant-loop-place : goal.invariant-loop-place
invariant-loop-place l = record {
  count : length l.node_changed ≡ length l.initial.node_changed;
  down : (m : ℕ) → m < l.place
      → (flag l.node_changed m ≡ false ↔ HaveNode l.change.before.now l.change.after.now m);
}
