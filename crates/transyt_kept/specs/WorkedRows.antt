-- Worked rows: two links at one sweep in a cycle of three steps.
use Rattle.std.specs.Prelude.{[], ◌∷◌}
use Rattle.transyt_kept.specs.Cell.{CellValue, new_figures}
use Rattle.transyt_kept.specs.Rows.{RowsValue, rows_of}

-- rows in which each value tells its place
abbrev pub rows : RowsValue
rows =
    rows_of 3 1 ((1 ∷ 2 ∷ 3 ∷ []) ∷ (4 ∷ 5 ∷ 6 ∷ []) ∷ (11 ∷ 12 ∷ 13 ∷ []) ∷ (14 ∷ 15 ∷ 16 ∷ []) ∷ [])
    ((31 ∷ 32 ∷ 33 ∷ []) ∷ (34 ∷ 35 ∷ 36 ∷ []) ∷ []) ((41 ∷ 42 ∷ 43 ∷ []) ∷ (44 ∷ 45 ∷ 46 ∷ []) ∷ [])
    ((51 ∷ 52 ∷ 53 ∷ []) ∷ (54 ∷ 55 ∷ 56 ∷ []) ∷ []) (new_figures 61 62 63 64 ∷ new_figures 71 72 73 74 ∷ [])

-- the second link at the last sweep
abbrev pub second_link : CellValue
second_link = record {
  arrivals = 34 ∷ 35 ∷ 36 ∷ [];
  go = 44 ∷ 45 ∷ 46 ∷ [];
  queue = 54 ∷ 55 ∷ 56 ∷ [];
  out = 14 ∷ 15 ∷ 16 ∷ [];
  figures = new_figures 71 72 73 74;
}

-- another work of a link
abbrev pub another : CellValue
another = record {
  arrivals = 37 ∷ 38 ∷ 39 ∷ [];
  go = 47 ∷ 48 ∷ 49 ∷ [];
  queue = 57 ∷ 58 ∷ 59 ∷ [];
  out = 17 ∷ 18 ∷ 19 ∷ [];
  figures = new_figures 1 2 3 4;
}

-- the rows with it as the second link before the last sweep: only its departures are kept
abbrev pub placed_before : RowsValue
placed_before =
    record rows { outs = (1 ∷ 2 ∷ 3 ∷ []) ∷ (17 ∷ 18 ∷ 19 ∷ []) ∷ (11 ∷ 12 ∷ 13 ∷ []) ∷ (14 ∷ 15 ∷ 16 ∷ []) ∷ [] }

-- the rows with it as the first link at the last sweep: all of it is kept
abbrev pub placed_last : RowsValue
placed_last =
    rows_of 3 1 ((1 ∷ 2 ∷ 3 ∷ []) ∷ (4 ∷ 5 ∷ 6 ∷ []) ∷ (17 ∷ 18 ∷ 19 ∷ []) ∷ (14 ∷ 15 ∷ 16 ∷ []) ∷ [])
    ((37 ∷ 38 ∷ 39 ∷ []) ∷ (34 ∷ 35 ∷ 36 ∷ []) ∷ []) ((47 ∷ 48 ∷ 49 ∷ []) ∷ (44 ∷ 45 ∷ 46 ∷ []) ∷ [])
    ((57 ∷ 58 ∷ 59 ∷ []) ∷ (54 ∷ 55 ∷ 56 ∷ []) ∷ []) (new_figures 1 2 3 4 ∷ new_figures 71 72 73 74 ∷ [])

-- the rows with all of it but its departures as the first link
abbrev pub with_another : RowsValue
with_another = record placed_last { outs = rows.outs }

-- the rows with its arrivals, queue and figures as those of the second link
abbrev pub arrivals_of_another : RowsValue
arrivals_of_another = record rows {
  arrivals = (31 ∷ 32 ∷ 33 ∷ []) ∷ (37 ∷ 38 ∷ 39 ∷ []) ∷ [];
  queue = (51 ∷ 52 ∷ 53 ∷ []) ∷ (57 ∷ 58 ∷ 59 ∷ []) ∷ [];
  figures = new_figures 61 62 63 64 ∷ new_figures 1 2 3 4 ∷ [];
}

-- the rows with its GO as that of the second link
abbrev pub go_of_another : RowsValue
go_of_another = record rows { go = (41 ∷ 42 ∷ 43 ∷ []) ∷ (47 ∷ 48 ∷ 49 ∷ []) ∷ [] }
