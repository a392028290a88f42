-- No stage before the place has a degree above that of the best so far.
use Rattle.std.proofs.Common.{◌≡◌, ℕ, ◌<◌, false, length}
use Rattle.transyt_equisat.specs.Degrees.{is_above}
use Rattle.transyt_equisat.specs.Sharing.{degree_at}
use Rattle.transyt_equisat.proofs.sharing.busiest.Given as goal

abbrev pub invariant-loop-place : goal.invariant-loop-place
invariant-loop-place l = record {
  inside : l.best < length l.here.asked.now.stages;
  greatest : (k : ℕ) → k < l.place
      → is_above (degree_at l.here.asked.now l.here.greens.now k) (degree_at l.here.asked.now l.here.greens.now l.best) ≡ false;
}
