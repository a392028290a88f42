-- The list has its length, and a move at each place.
use Rattle.std.proofs.Common.{refl}
use Rattle.transyt_moves.specs.Moves.{move, move_count}
use Rattle.transyt_moves.proofs.laws.worked_moves.Goals as goal

-- 14 by each of three sizes
pub returns-clause-count : goal.returns-clause-count
unfolding move_count
returns-clause-count c = refl

-- the first change by one step, which leads past the cycle
pub returns-clause-place : goal.returns-clause-place
unfolding move
returns-clause-place c = refl
