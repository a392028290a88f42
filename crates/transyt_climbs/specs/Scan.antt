-- Climbs over cycle times: the cycle times, the row of each, and the best row.
use Rattle.std.specs.Prelude.{ℕ, ◌<◌, ◌≤◌, nat_lt, true, List, [], ◌∷◌, length, fold, slice_index_or, if◌then◌else◌}
use Rattle.std.specs.Prelude.{nat_le, ◌&&◌, map, Option, None, option_map}
use Rattle.std.specs.List.{range_with_len}
use Rattle.transyt_net.specs.Parts.{Network, with_cycle}
use Rattle.transyt_climbs.specs.declared.times.CycleTimes.{CycleTimes}
use Rattle.transyt_climbs.specs.declared.row.Climbed.{Climbed}
use Rattle.transyt_climbs.specs.declared.row.NetworkRow.{NetworkRow}
use Rattle.transyt_climbs.specs.Times.{AreTimes, cycle_at, cycle_count, times_of, times_within}
use Rattle.transyt_climbs.specs.Climbs.{climbed_row, NetworkListValue}
use Rattle.transyt_climbs.specs.declared.scan_word.ScanWord.{ScanWord}
pub use Rattle.transyt_climbs.specs.declared.scan_row.ScanRow.{ScanRow}
use Rattle.transyt_climbs.specs.declared.networks.NetworkAt.TheVariants as plan
use Rattle.transyt_climbs.specs.declared.row.NetworkRow.TheVariants as row

-- the row at a place that has none
abbrev pub no_row : ScanRow
no_row = record { cycle = 0; from = 0; took = 0; local = true; looked = 0; to = 0 }

-- the index at the end of the row at a place
abbrev pub to_at : List ScanRow → ℕ → ℕ
to_at rows place = (slice_index_or rows place no_row).to

-- the place of the first row with the least index at its end
pub record IsLeast (rows : List ScanRow) (place : ℕ) : Type 0 where
  pub within : place < length rows
  pub least : (k : ℕ) → k < length rows → to_at rows place ≤ to_at rows k
  pub first : (k : ℕ) → k < place → to_at rows place < to_at rows k

-- the better of two rows: the later only where its index at the end is lower
abbrev pub better : ScanRow → ScanRow → ScanRow
better row later = if nat_lt later.to row.to then later else row

-- the best row
abbrev pub best : List ScanRow → ScanRow
best [] = no_row
best (row ∷ rows) = fold better row rows

-- a question that may be asked: one to eight workers, and cycle times that may be
pub record IsScan (asked : ScanWord) : Type 0 where
  pub some : 1 ≤ asked.workers
  pub few : asked.workers ≤ 8
  pub times : AreTimes asked.times

-- so many workers over such cycle times
abbrev pub over_times : ℕ → CycleTimes → ScanWord
over_times workers times = record { workers = workers; times = times }

-- so many workers over cycle times from a lowest to a highest by a step
abbrev pub asking : ℕ → ℕ → ℕ → ℕ → ScanWord
asking workers low high by = over_times workers (times_of low high by)

-- the question of these numbers, where they may be
abbrev pub scan_of : ℕ → ℕ → ℕ → ℕ → Option ScanWord
scan_of workers low high by =
    if nat_le 1 workers && nat_le workers 8 then option_map (over_times workers) (times_within low high by) else None

-- the cycle times, each with the network at it: its cycle is this one, and all else is as it is
abbrev pub listed : CycleTimes → NetworkListValue
listed times = record {
  count = cycle_count times;
  number = cycle_at times;
  network = λ net place. plan.Plan (with_cycle net (cycle_at times place));
}

-- a climb as a row
abbrev pub scan_row : Climbed → ScanRow
scan_row c = record { cycle = c.number; from = c.from; took = c.took; local = c.local; looked = c.looked; to = c.to }

-- the row of a cycle time, by that of its network, each of which is climbed
abbrev pub scan_row_of : NetworkRow → ScanRow
scan_row_of (row.Climbed c) = scan_row c
scan_row_of (row.Barred number node) = record no_row { cycle = number }
scan_row_of (row.NoPlan number) = record no_row { cycle = number }

-- the row of a cycle time: that of the climb of the network with this cycle and all else as it is
abbrev pub row_at : Network → ℕ → ScanRow
row_at net cycle = scan_row (climbed_row cycle (with_cycle net cycle))

-- the table: a row for each cycle time, from the lowest on
abbrev pub table : Network → CycleTimes → List ScanRow
table net times = map (λ place. row_at net (cycle_at times place)) (range_with_len 0 (cycle_count times))
