-- The steps of an audit, for which the list of moves is counted, and the climbs of a scan.
use Rattle.std.proofs.Common.{refl}
use Rattle.transyt_moves.specs.Moves.{move, move_count}
use Rattle.transyt_sweep.specs.Climb.{tried_at, lowers, moved, climb}
use Rattle.transyt_climbs.specs.Climbs.{own_climb}
use Rattle.transyt_words.proofs.laws.worked_answers.Goals as goal

pub returns-clause-audit_steps : goal.returns-clause-audit_steps
unfolding move_count
returns-clause-audit_steps c = refl

-- climbs that look once at each place
pub returns-clause-scan_answer : goal.returns-clause-scan_answer
unfolding own_climb climb move_count move tried_at lowers moved
returns-clause-scan_answer c = refl
