-- Counts of faults.
use Rattle.std.proofs.Common.{ℕ, ◌<◌, inl, inr, arith}
use Rattle.transyt_io.specs.Streams.{Rose, last_count}

-- a count that stays below its last value did not rise
pub no_rise : (before : ℕ) → before < last_count → ¬ Rose before before
no_rise before below (inl higher) = absurd (omega arith)
no_rise before below (inr last) = absurd (omega arith)
