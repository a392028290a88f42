-- The law of a climb's end.
use Rattle.transyt_climb.proofs.LocalLaws.{local_climb}
use Rattle.transyt_climb.proofs.laws.rule_of_local.Goals as goal

pub returns : goal.returns
returns c = local_climb
