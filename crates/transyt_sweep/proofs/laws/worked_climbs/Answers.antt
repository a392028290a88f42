-- Tries, searches and climbs, computed from the definitions.
use Rattle.std.proofs.Common.{refl}
use Rattle.transyt_moves.specs.Moves.{move, move_count}
use Rattle.transyt_sweep.specs.Climb.{tried_at, lowers, moved, climb}
use Rattle.transyt_sweep.proofs.laws.worked_climbs.Goals as goal

-- the find of each try
pub returns-clause-tried : goal.returns-clause-tried
unfolding move tried_at
returns-clause-tried c = refl

-- a climb that finds no lowering move
pub returns-clause-local : goal.returns-clause-local
unfolding move move_count tried_at lowers moved climb
returns-clause-local c = refl

-- one that ends before it has looked at all
pub returns-clause-budget : goal.returns-clause-budget
unfolding move move_count tried_at lowers moved climb
returns-clause-budget c = refl

-- one where there is no move
pub returns-clause-no_move : goal.returns-clause-no_move
unfolding move move_count tried_at lowers moved climb
returns-clause-no_move c = refl

-- a step, and what follows it
pub returns-clause-step : goal.returns-clause-step
unfolding move move_count tried_at lowers moved
returns-clause-step c = refl

-- none where no look is left
pub returns-clause-no_step : goal.returns-clause-no_step
unfolding move_count
returns-clause-no_step c = refl
