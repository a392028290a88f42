-- The results so far were handed on.
use Rattle.std.proofs.Common.{◌≡◌, length}
use Rattle.transyt_desks.specs.Stretches.{AreTriesOf}
use Rattle.transyt_desks.proofs.trying.hand_on.Given as goal

-- they stand at the front
abbrev pub invariant-loop-number : goal.invariant-loop-number
invariant-loop-number l = record {
  tries : AreTriesOf l.job.zero.now.net l.job.batch.place l.number l.tries;
  len : length l.tries ≡ length l.fn.tries;
}
