-- Answers, computed from the definitions.
use Rattle.std.proofs.Common.{refl}
use Rattle.transyt_moves.specs.Moves.{move, move_count}
use Rattle.transyt_sweep.specs.Climb.{tried_at, lowers, moved, climb}
use Rattle.transyt_make.specs.Draws.{after_draws}
use Rattle.transyt_climbs.specs.Climbs.{own_climb}
use Rattle.transyt_variants.specs.Starts.{start_at}
use Rattle.transyt_variants.specs.Cycles.{at_cycle}
use Rattle.transyt_words.proofs.WorkedEnd.{deck_is_the_end}
use Rattle.transyt_words.proofs.laws.worked_table.Goals as goal

-- climbs that look once at each place
pub returns-clause-starts : goal.returns-clause-starts
unfolding start_at after_draws own_climb climb move_count move tried_at lowers moved
returns-clause-starts c = refl

pub returns-clause-later_starts : goal.returns-clause-later_starts
unfolding start_at after_draws own_climb climb move_count move tried_at lowers moved
returns-clause-later_starts c = refl

pub returns-clause-cycles : goal.returns-clause-cycles
unfolding at_cycle own_climb climb move_count move tried_at lowers moved
returns-clause-cycles c = refl

-- nothing to climb on
pub returns-clause-none : goal.returns-clause-none
unfolding at_cycle
returns-clause-none c = refl

-- a climb that takes a step
pub returns-clause-end : goal.returns-clause-end
returns-clause-end c = deck_is_the_end
