-- The rows of a table.
use Rattle.std.proofs.Common.{◌≡◌, map}
use Rattle.std.specs.List.{range_with_len}
use Rattle.std.proofs.lemmas.Simd.{map-map}
use Rattle.transyt_net.specs.Parts.{Network}
use Rattle.transyt_climbs.specs.declared.times.CycleTimes.{CycleTimes}
use Rattle.transyt_climbs.specs.Times.{cycle_count}
use Rattle.transyt_climbs.specs.Climbs as climbs
use Rattle.transyt_climbs.specs.Scan.{listed, scan_row_of, table}

-- they are those of the climbs
pub table_rows : (net : Network) (times : CycleTimes) → map scan_row_of (climbs.table (listed times) net) ≡ table net times
table_rows net times =
    map-map scan_row_of (climbs.row_at (listed times) net) (range_with_len 0 (cycle_count times))
