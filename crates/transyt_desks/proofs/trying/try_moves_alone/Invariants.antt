-- The moves so far were tried, in the steps of their work, and the session is as it was.
use Rattle.std.proofs.Common.{◌≡◌, ◌+◌, length}
use Rattle.transyt_track.specs.Due.{cert_work}
use Rattle.transyt_desks.specs.Stretches.{AreTriesOf}
use Rattle.transyt_desks.proofs.trying.try_moves_alone.Given as goal

-- their results stand at the front
abbrev pub invariant-loop-number : goal.invariant-loop-number
invariant-loop-number g l = record {
  tried : AreTriesOf l.fn.session.net l.from l.number l.tries;
  len : length l.tries ≡ length l.fn.tries;
  same : l.session ≡ l.fn.session;
  steps : l.steps + cert_work l.fn.session.net l.from ≡ l.fn.steps + cert_work l.fn.session.net (l.from + l.number);
}
