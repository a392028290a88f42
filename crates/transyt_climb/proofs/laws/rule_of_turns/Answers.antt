-- The law of the turns.
use Rattle.transyt_climb.proofs.WayLaws.{turns_are_climb}
use Rattle.transyt_climb.proofs.laws.rule_of_turns.Goals as goal

pub returns : goal.returns
returns c = turns_are_climb
