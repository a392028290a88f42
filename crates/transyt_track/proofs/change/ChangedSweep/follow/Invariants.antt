-- The links of a sweep, one after another.
use Rattle.std.proofs.Common.{◌≡◌, ◌+◌}
use Rattle.transyt_track.specs.Due.{due_in}
use Rattle.transyt_track.specs.Change.{IsFront}
use Rattle.transyt_track.proofs.change.ChangedSweep.follow.Given as goal

-- those so far had their turn, in a step for each that was due
abbrev pub invariant-loop-link : goal.invariant-loop-link
invariant-loop-link g l = record {
  front : IsFront l.change l.sweep l.link l.front;
  marked : l.front.kept.marked ≡ l.fn.front.kept.marked;
  count : l.count ≡ due_in l.change.before.now l.change.after.now l.sweep l.link;
  steps : l.steps ≡ l.fn.steps + l.count;
}
