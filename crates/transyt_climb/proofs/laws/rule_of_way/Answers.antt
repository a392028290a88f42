-- The law of a climb's way.
use Rattle.transyt_climb.proofs.WayLaws.{way_start, way_round, way_over}
use Rattle.transyt_climb.proofs.laws.rule_of_way.Goals as goal

pub returns-clause-starts : goal.returns-clause-starts
returns-clause-starts c = way_start

pub returns-clause-goes_on : goal.returns-clause-goes_on
returns-clause-goes_on c = way_round

pub returns-clause-ends : goal.returns-clause-ends
returns-clause-ends c = way_over
