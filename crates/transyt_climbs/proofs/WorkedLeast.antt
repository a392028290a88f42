-- The least of the worked rows.
use Rattle.std.proofs.Common.{◌≤◌, ◌<◌, ℕ, zero, suc, lit≤, lit<, arith}
use Rattle.transyt_climbs.specs.Scan.{IsLeast, to_at}
use Rattle.transyt_climbs.specs.WorkedScan.{three_rows}

-- no row is below that at place 1
none_below : (k : ℕ) → k < 3 → to_at three_rows 1 ≤ to_at three_rows k
none_below zero below = lit≤ tt
none_below (suc zero) below = lit≤ tt
none_below (suc (suc zero)) below = lit≤ tt
none_below (suc (suc (suc k))) below = absurd (omega (arith, below))

-- and each before it is above
above_before : (k : ℕ) → k < 1 → to_at three_rows 1 < to_at three_rows k
above_before zero below = lit< tt
above_before (suc k) below = absurd (omega (arith, below))

pub first_is_least : IsLeast three_rows 1
first_is_least = record { within = lit< tt; least = none_below; first = above_before }

-- the next is not below the one before it
pub later_is_not : IsLeast three_rows 2 → ⊥
later_is_not is = let below = is.first 1 (lit< tt) in absurd (omega (arith, below))
