-- The links, one after another.
use Rattle.std.proofs.Common.{◌≡◌, None}
use Rattle.transyt_sweep.specs.Opened.{AreStarted}
use Rattle.transyt_sweep.proofs.rows.fill_starts.Given as goal

-- those so far are started
abbrev pub invariant-loop-link : goal.invariant-loop-link
invariant-loop-link l = record {
  started : AreStarted l.net 0 l.link l.rows.now;
  unmarked : l.rows.marked ≡ None;
}
