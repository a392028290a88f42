-- A platoon on its way: how long it travels, and how it spreads.
use Rattle.std.specs.Prelude.{ℕ, zero, suc, ◌+◌, ◌*◌, ◌/◌, ◌%◌, List, length, map, sum, slice_index}
use Rattle.std.specs.List.{range_with_len}
use Rattle.transyt_cycle.specs.Cycle.{minus_mod}

-- the travel time in steps: 0.8 of the cruise time in seconds, rounded to the nearest step, a half up
abbrev pub travel_steps : ℕ → ℕ → ℕ → ℕ
travel_steps cruise step_count cycle = (8 * cruise * step_count + 5 * cycle) / (10 * cycle)

-- 100 parts of the value that sets out and `weight` parts of the smoothed value a step before, in units per step,
-- rounded down
abbrev pub mixed : ℕ → ℕ → ℕ → ℕ
mixed weight starting before = (100 * starting + weight * before) / (100 + weight)

-- the smoothed profile after j steps of it, over and over; it begins with the mean, rounded down
unfoldable pub smoothed : List ℕ → ℕ → ℕ → ℕ
smoothed profile weight zero = sum profile / length profile
smoothed profile weight (suc j) = mixed weight (slice_index profile (j % length profile)) (smoothed profile weight j)

-- the arrivals of step i: the second turn's value for the step from which t steps of travel lead to i
abbrev pub dispersed_at : List ℕ → ℕ → ℕ → ℕ → ℕ
dispersed_at profile t percent i = smoothed profile (percent * t) (length profile + 1 + minus_mod (length profile) i t)

-- the platoon after t steps of travel, at `percent` dispersion
abbrev pub dispersed : List ℕ → ℕ → ℕ → List ℕ
dispersed profile t percent = map (dispersed_at profile t percent) (range_with_len 0 (length profile))
