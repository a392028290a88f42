-- The worked queues are computed, and each has the two facts.
use Rattle.transyt_profile.proofs.Examples.{facts}
use Rattle.transyt_profile.proofs.stopline_laws.worked_facts_of_queues.Goals as goal

pub returns : goal.returns
returns c = facts
