-- The claims on worked lines.
use Rattle.std.proofs.Common.{[], ◌∷◌, refl, arith}
use Rattle.transyt_outcome.specs.WorkedOutcomes.{echo}
use Rattle.transyt_outcome.proofs.MoreBytes.{lines_settled}
use Rattle.transyt_outcome.proofs.limits.worked_claims.Goals as goal

pub returns-clause-headline_held : goal.returns-clause-headline_held
returns-clause-headline_held c h = let told = (h _ _ refl refl (omega arith)).0 in grind arith

pub returns-clause-headline_status : goal.returns-clause-headline_status
returns-clause-headline_status c h = let told = (h _ _ refl refl (omega arith)).1 in grind arith

pub returns-clause-complete_status : goal.returns-clause-complete_status
returns-clause-complete_status c h = let told = h _ refl (omega arith) in grind arith

pub returns-clause-settled : goal.returns-clause-settled
returns-clause-settled c = lines_settled echo

-- a third byte after the two that end the run
pub returns-clause-unsettled : goal.returns-clause-unsettled
returns-clause-unsettled c h = let told = h.ends (4 ∷ 6 ∷ []) (9 ∷ []) tt in grind arith
