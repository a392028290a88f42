-- The best of the rows so far.
use Rattle.std.proofs.Common.{◌≡◌, ℕ, ◌<◌, ◌≤◌, get_or, drop, fold}
use Rattle.transyt_climbs.specs.Scan.{to_at, no_row, best, better}
use Rattle.transyt_climbs.proofs.scan_best.least.Given as goal

-- it is the first of those before this one with the least index at its end, and it stands for them
abbrev pub invariant-loop-place : goal.invariant-loop-place
invariant-loop-place l = record {
  within : l.least < l.place;
  least : (k : ℕ) → k < l.place → to_at l.rows l.least ≤ to_at l.rows k;
  first : (k : ℕ) → k < l.least → to_at l.rows l.least < to_at l.rows k;
  best : fold better (get_or l.rows l.least no_row) (drop l.place l.rows) ≡ best l.rows;
}
