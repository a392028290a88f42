-- The rows are the table's.
use Rattle.std.proofs.Common.{◌≡◌, map, ap, ◌∙◌, rules}
use Rattle.std.proofs.lemmas.Result.{IfOk-weaker}
use Rattle.transyt_climbs.specs.Scan.{scan_row_of, table}
use Rattle.transyt_climbs.proofs.ScanLaws.{table_rows}
use Rattle.transyt_climbs.proofs.scanning.scan_told.Goals as goal

pub returns-clause-table : goal.returns-clause-table
returns-clause-table g c =
    let lent : c.deref.result.now ≡ c.in_ok-rows.rows.items = search rules in
    IfOk-weaker c.scan_rows.result (λ made. made.items ≡ map scan_row_of c.deref.result.now)
    (λ rows. rows.items ≡ table c.args.work.now.net.now c.args.work.now.asked.now.asked.times)
    (λ rows made. made ∙ ap (map scan_row_of) (lent ∙ c.in_ok-rows.ensures.table)
    ∙ table_rows c.args.work.now.net.now c.args.work.now.asked.now.asked.times)
    c.scan_rows.ensures
