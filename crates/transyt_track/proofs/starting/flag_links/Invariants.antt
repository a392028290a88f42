-- The links, one after another.
use Rattle.std.proofs.Common.{◌≡◌, ◌↔◌, ◌<◌, ℕ, false, length}
use Rattle.transyt_track.specs.Own.{HaveData}
use Rattle.transyt_track.specs.Front.{flag, total_differs}
use Rattle.transyt_track.proofs.starting.flag_links.Given as goal

-- those so far are flagged
abbrev pub invariant-loop-link : goal.invariant-loop-link
invariant-loop-link l = record {
  own_count : length l.front.own_changed.items ≡ length l.change.after.now.links;
  count : length l.front.out_changed.items ≡ length l.change.after.now.links;
  own : (m : ℕ) → m < l.link
      → (flag l.front.own_changed.items m ≡ false ↔ HaveData l.change.before.now l.change.after.now m);
  totals : (m : ℕ) → m < l.link
      → flag l.front.out_changed.items m ≡ total_differs l.change.before.now l.change.after.now m;
  kept : l.front.kept ≡ l.fn.front.kept;
  scratch : l.front.scratch ≡ l.fn.front.scratch;
}
