-- The links, one after another.
use Rattle.std.proofs.Common.{◌≡◌}
use Rattle.transyt_track.specs.Front.{AreAt}
use Rattle.transyt_track.proofs.starting.start_links.Given as goal

-- the front has come to the link before the first sweep
abbrev pub invariant-loop-link : goal.invariant-loop-link
invariant-loop-link l = record {
  at : AreAt l.change.before.now l.change.after.now 0 l.link l.kept.now l.out_changed;
  marked : l.kept.marked ≡ l.fn.kept.marked;
}
