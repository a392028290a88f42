-- Rows, computed from the definitions.
use Rattle.std.proofs.Common.{refl}
use Rattle.transyt_moves.specs.Moves.{move, move_count}
use Rattle.transyt_sweep.specs.Climb.{tried_at, lowers, moved, climb}
use Rattle.transyt_climbs.specs.Climbs.{own_climb}
use Rattle.transyt_climbs.proofs.laws.worked_rows.Goals as goal
use Rattle.transyt_climbs.proofs.WorkedRow.{row_is_worked, end_is_worked}

-- climbs that look once at each place, and until the budget is spent
pub returns-clause-table : goal.returns-clause-table
unfolding own_climb climb move_count move tried_at lowers moved
returns-clause-table c = refl

-- none, where nothing is listed
pub returns-clause-unplanned : goal.returns-clause-unplanned
unfolding own_climb
returns-clause-unplanned c = refl

-- the climb on the junction
pub returns-clause-row : goal.returns-clause-row
returns-clause-row c = row_is_worked 17

-- and the network at its end
pub returns-clause-end : goal.returns-clause-end
returns-clause-end c = end_is_worked
