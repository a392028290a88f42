-- The answer of `scan` to a network.
use Rattle.std.specs.Prelude.{ℕ, ◌++◌, List, [], ◌∷◌, codes, map, if◌then◌else◌}
use Rattle.transyt_climbs.specs.declared.times.CycleTimes.{CycleTimes}
use Rattle.transyt_climbs.specs.declared.scan_row.ScanRow.{ScanRow}
use Rattle.transyt_climbs.specs.Scan.{table, best}
use Rattle.transyt_words.specs.Answer.{AnswerValue, done, LineValue, line_of}
use Rattle.transyt_words.specs.Case.{CaseValue}

-- the line of a row: its cycle time, the index before the climb, the steps, the places looked at, the index after it
abbrev pub row_line : ScanRow → LineValue
row_line row =
    line_of
    (if row.local then codes "CYCLE # FROM # TOOK # LOCAL # TO #" else codes "CYCLE # FROM # TOOK # BUDGET # TO #")
    (row.cycle ∷ row.from ∷ row.took ∷ row.looked ∷ row.to ∷ [])

-- the last line: the cycle time of the best row, and its index at the end
abbrev pub best_line : ScanRow → LineValue
best_line row = line_of (codes "BEST # #") (row.cycle ∷ row.to ∷ [])

-- a line for each row, and then the last
abbrev pub table_lines : List ScanRow → List LineValue
table_lines rows = map row_line rows ++ best_line (best rows) ∷ []

-- the answer to a case, whatever the number of workers; the table isn't looked at
abbrev pub scan_answer : CycleTimes → CaseValue → AnswerValue
scan_answer times case = done (table_lines (table case.net times))
