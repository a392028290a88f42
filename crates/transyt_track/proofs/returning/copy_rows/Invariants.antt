-- The pairs, one after another.
use Rattle.std.proofs.Common.{◌≡◌}
use Rattle.transyt_sweep.specs.Sweeps.{out_of, evaluated}
use Rattle.transyt_kept.specs.Rows.{out_at, shown_at}
use Rattle.transyt_sweep.specs.Front.{AreMixed}
use Rattle.transyt_track.specs.Front.{AreShownMixed}
use Rattle.transyt_track.proofs.returning.copy_rows.Given as goal

abbrev pub invariant-loop-sweep : goal.invariant-loop-sweep
invariant-loop-sweep l = record {
  outs : AreMixed l.net (out_of l.net) (out_at l.fn.kept.now) l.sweep 0 l.kept.now;
  shown : AreShownMixed l.net (evaluated l.net) (shown_at l.fn.kept.now) l.sweep 0 l.kept.now;
  marked : l.kept.marked ≡ l.fn.kept.marked;
}

abbrev pub invariant-loop-link : goal.invariant-loop-link
invariant-loop-link l = record {
  outs : AreMixed l.net (out_of l.net) (out_at l.fn.kept.now) l.sweep l.link l.kept.now;
  shown : AreShownMixed l.net (evaluated l.net) (shown_at l.fn.kept.now) l.sweep l.link l.kept.now;
  marked : l.kept.marked ≡ l.fn.kept.marked;
}
