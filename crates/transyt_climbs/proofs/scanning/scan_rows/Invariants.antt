-- The rows so far.
use Rattle.std.proofs.Common.{◌≡◌, ◌++◌, map, drop}
use Rattle.transyt_climbs.specs.Scan.{scan_row_of}
use Rattle.transyt_climbs.proofs.scanning.scan_rows.Given as goal

-- those made and those still to be looked at are all
abbrev pub invariant-loop-row : goal.invariant-loop-row
invariant-loop-row l = l.made.items ++ map scan_row_of (drop l.row-index l.rows) ≡ map scan_row_of l.rows
