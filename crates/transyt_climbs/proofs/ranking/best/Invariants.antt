-- The best of the rows so far.
use Rattle.std.proofs.Common.{◌≡◌, drop}
use Rattle.transyt_climbs.specs.Climbs.{AreBest, best, best_from}
use Rattle.transyt_climbs.proofs.ranking.best.Given as goal

-- it is the first of those before this one with the least index at its end, and it stands for them
abbrev pub invariant-loop-place : goal.invariant-loop-place
invariant-loop-place l = record {
  found : AreBest l.rows l.place l.best;
  rest : best_from l.best l.place (drop l.place l.rows) ≡ best l.rows;
}
