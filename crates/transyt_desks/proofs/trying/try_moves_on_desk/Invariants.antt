-- The moves so far were tried and taken back, and the session is as it was.
use Rattle.std.proofs.Common.{◌≡◌, ◌<◌, ℕ, None, length}
use Rattle.transyt_desks.specs.Stretches.{AreTriesAt, made_at, turn_place}
use Rattle.transyt_desks.proofs.trying.try_moves_on_desk.Given as goal

-- their tries stand at the front
abbrev pub invariant-loop-turn : goal.invariant-loop-turn
invariant-loop-turn l = record {
  tries : AreTriesAt l.fn.session.net (turn_place l.attempt.job.batch l.attempt.desk) l.turn l.results.tries;
  passes : (k : ℕ) → k < l.turn → made_at l.fn.session.net l.attempt.job.batch.bound (turn_place l.attempt.job.batch l.attempt.desk k) ≡ None;
  passed : l.results.passed ≡ l.turn;
  none : l.results.made ≡ None;
  len : length l.results.tries ≡ 64;
  same : l.session ≡ l.fn.session;
}
