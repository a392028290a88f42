-- Cycle times by a step.
use Rattle.std.specs.Prelude.{ℕ, ◌+◌, ◌-◌, ◌*◌, ◌/◌, ◌≤◌, nat_le, ◌&&◌, if◌then◌else◌, Option, Some, None}
use Rattle.transyt_climbs.specs.declared.times.CycleTimes.{CycleTimes}

-- cycle times that may be asked for: from 30 to 240 seconds, by a step of 1 to 210
pub record AreTimes (times : CycleTimes) : Type 0 where
  pub short : 30 ≤ times.low
  pub order : times.low ≤ times.high
  pub long : times.high ≤ 240
  pub step : 1 ≤ times.by
  pub steps : times.by ≤ 210

-- cycle times from a lowest to a highest by a step
abbrev pub times_of : ℕ → ℕ → ℕ → CycleTimes
times_of low high by = record { low = low; high = high; by = by }

-- those of these numbers, where they may be asked for
abbrev pub times_within : ℕ → ℕ → ℕ → Option CycleTimes
times_within low high by =
    if nat_le 30 low && nat_le low high && nat_le high 240 && nat_le 1 by && nat_le by 210
    then Some (times_of low high by) else None

-- the cycle time at a place, from 0
abbrev pub cycle_at : CycleTimes → ℕ → ℕ
cycle_at times place = times.low + place * times.by

-- how many cycle times there are: the lowest, one step more, and so on up to the highest
abbrev pub cycle_count : CycleTimes → ℕ
cycle_count times = (times.high - times.low) / times.by + 1
