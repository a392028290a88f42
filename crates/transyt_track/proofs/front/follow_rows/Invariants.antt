-- The sweeps, one after another.
use Rattle.std.proofs.Common.{◌≡◌, ◌+◌, ◌-◌}
use Rattle.transyt_track.specs.Due.{due_through}
use Rattle.transyt_track.specs.Change.{IsFront}
use Rattle.transyt_track.proofs.front.follow_rows.Given as goal

-- the front stands at the first link of the sweep
abbrev pub invariant-loop-number : goal.invariant-loop-number
invariant-loop-number g l = record {
  front : IsFront l.change l.number 0 l.front;
  marked : l.front.kept.marked ≡ l.fn.front.kept.marked;
  count : l.count ≡ due_through l.change.before.now l.change.after.now (l.number - 1);
  steps : l.steps ≡ l.fn.steps + l.count;
}
