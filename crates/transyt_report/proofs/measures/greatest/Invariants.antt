-- The greatest of the values so far, and the next, is that of all up to it.
use Rattle.std.proofs.Common.{◌≡◌, take}
use Rattle.transyt_report.specs.Measures.{greatest}
use Rattle.transyt_report.proofs.measures.greatest.Given as goal

-- the greatest so far
abbrev pub invariant-loop-value : goal.invariant-loop-value
invariant-loop-value l = l.best ≡ greatest l.least (take l.value-index l.values)
