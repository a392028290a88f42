-- The looks so far are counted.
use Rattle.std.proofs.Common.{◌≡◌}
use Rattle.transyt_desks.specs.Rounds.{passed_by}
use Rattle.transyt_desks.proofs.turns.note_passed.Given as goal

-- so many
abbrev pub invariant-loop-looked : goal.invariant-loop-looked
invariant-loop-looked l = l.climber ≡ passed_by l.looked l.fn.climber
