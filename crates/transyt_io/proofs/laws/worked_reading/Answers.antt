-- The worked reader is computed; each wrong one contradicts one field of what a reader is.
use Rattle.std.proofs.Common.{true, [], refl, arith}
use Rattle.transyt_io.proofs.laws.worked_reading.Goals as goal

pub returns-clause-other_line : goal.returns-clause-other_line
returns-clause-other_line c h = let told = h.to_come true [] (λ _. (refl, refl)) in grind arith
