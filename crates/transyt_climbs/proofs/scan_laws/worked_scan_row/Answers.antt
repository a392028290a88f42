-- The row at 90 seconds, by the lemma that works out the climb.
use Rattle.std.proofs.Common.{ap}
use Rattle.transyt_climbs.proofs.WorkedRow.{row_is_worked}
use Rattle.transyt_climbs.specs.Scan.{scan_row}
use Rattle.transyt_climbs.proofs.scan_laws.worked_scan_row.Goals as goal

-- the climb at 90 seconds
pub returns : goal.returns
returns c = ap scan_row (row_is_worked 90)
