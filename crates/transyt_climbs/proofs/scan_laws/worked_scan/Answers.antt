-- Rows, computed from the definitions.
use Rattle.std.proofs.Common.{refl}
use Rattle.transyt_moves.specs.Moves.{move, move_count}
use Rattle.transyt_sweep.specs.Climb.{tried_at, lowers, moved, climb}
use Rattle.transyt_climbs.specs.Climbs.{own_climb}
use Rattle.transyt_climbs.proofs.scan_laws.worked_scan.Goals as goal

-- a climb that looks once at each place
pub returns-clause-rows : goal.returns-clause-rows
unfolding own_climb climb move_count move tried_at lowers moved
returns-clause-rows c = refl

-- one that ends before it has
pub returns-clause-budget : goal.returns-clause-budget
unfolding own_climb climb move_count move tried_at lowers moved
returns-clause-budget c = refl

-- none, where nothing is listed
pub returns-clause-unplanned : goal.returns-clause-unplanned
unfolding own_climb
returns-clause-unplanned c = refl
