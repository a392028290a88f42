-- The rows of an evaluation: the departures of each link at each sweep, and the rest of the last sweep.
use Rattle.std.specs.Prelude.{◌≡◌, ℕ, ◌+◌, ◌*◌, ◌^◌, ◌<◌, ◌≤◌, ◌==◌, List, [], length, replicate}
use Rattle.std.specs.Prelude.{slice_set, slice_index_or, All, sum_by, if◌then◌else◌}
use Rattle.transyt_delay.specs.declared.figures.Figures.{Figures}
use Rattle.transyt_kept.specs.Cell.{CellValue, no_figures, AreSmall}

-- row p of rows
abbrev pub row : List (List ℕ) → ℕ → List ℕ
row rows p = slice_index_or rows p []

-- rows of n values, all 0
abbrev pub empty_table : ℕ → ℕ → List (List ℕ)
empty_table count n = replicate count (replicate n 0)

-- The rows: `outs` has a row for each link of each sweep, from sweep 0 on, in order; the others have one for each link.
pub record RowsValue : Type 0 where
  pub step_count : ℕ
  pub sweeps : ℕ
  pub outs : List (List ℕ)
  pub arrivals : List (List ℕ)
  pub go : List (List ℕ)
  pub queue : List (List ℕ)
  pub figures : List Figures

-- rows of these parts
abbrev pub rows_of : ℕ → ℕ → List (List ℕ) → List (List ℕ) → List (List ℕ) → List (List ℕ) → List Figures → RowsValue
rows_of step_count sweeps outs arrivals go queue figures = record {
  step_count = step_count;
  sweeps = sweeps;
  outs = outs;
  arrivals = arrivals;
  go = go;
  queue = queue;
  figures = figures;
}

-- rows of n steps in which all is 0
abbrev pub empty_rows : ℕ → ℕ → ℕ → RowsValue
empty_rows n sweeps links =
    let shown = empty_table links n in
    rows_of n sweeps (empty_table ((sweeps + 1) * links) n) shown shown shown (replicate links no_figures)

-- which of the rows is that of link l at sweep s
abbrev pub pair_place : RowsValue → ℕ → ℕ → ℕ
pair_place rows s l = s * length rows.figures + l

-- the departures of link l at sweep s
abbrev pub out_at : RowsValue → ℕ → ℕ → List ℕ
out_at rows s l = row rows.outs (pair_place rows s l)

-- link l: its departures at sweep s, and the rest of the last sweep
abbrev pub pair_in : RowsValue → ℕ → ℕ → CellValue
pair_in rows s l = record {
  arrivals = row rows.arrivals l;
  go = row rows.go l;
  queue = row rows.queue l;
  out = out_at rows s l;
  figures = slice_index_or rows.figures l no_figures;
}

-- link l at the last sweep
abbrev pub shown_at : RowsValue → ℕ → CellValue
shown_at rows l = pair_in rows rows.sweeps l

-- the rows with x as the departures of link l at sweep s
abbrev pub with_out : RowsValue → ℕ → ℕ → List ℕ → RowsValue
with_out rows s l x = record rows { outs = slice_set rows.outs (pair_place rows s l) x }

-- the rows with these figures of link l
abbrev pub with_figures : RowsValue → ℕ → Figures → RowsValue
with_figures rows l f = record rows { figures = slice_set rows.figures l f }

-- the rows with this GO of link l at the last sweep
abbrev pub with_go : RowsValue → ℕ → List ℕ → RowsValue
with_go rows l go = record rows { go = slice_set rows.go l go }

-- the rows with these arrivals of link l at the last sweep, this queue and these figures
abbrev pub with_arrivals : RowsValue → ℕ → List ℕ → List ℕ → Figures → RowsValue
with_arrivals rows l arrivals queue f = record rows {
  arrivals = slice_set rows.arrivals l arrivals;
  queue = slice_set rows.queue l queue;
  figures = slice_set rows.figures l f;
}

-- the rows with this cell of link l at the last sweep, its departures apart
abbrev pub with_rest : RowsValue → ℕ → CellValue → RowsValue
with_rest rows l c = with_go (with_arrivals rows l c.arrivals c.queue c.figures) l c.go

-- the rows with link l at sweep s; at the last sweep all of it is kept
abbrev pub placed : RowsValue → ℕ → ℕ → CellValue → RowsValue
placed rows s l c =
    if s == rows.sweeps then with_rest (with_out rows s l c.out) l c else with_out rows s l c.out

-- the sum of the links' indexes
abbrev pub index_in : RowsValue → ℕ
index_in rows = sum_by (λ f. f.index) rows.figures

-- two have the same numbers of steps, sweeps and links
pub record SameSize (a b : RowsValue) : Type 0 where
  pub step_count : a.step_count ≡ b.step_count
  pub sweeps : a.sweeps ≡ b.sweeps
  pub link_count : length a.figures ≡ length b.figures

-- rows of this number, each of n values
pub record AreSized (count n : ℕ) (rows : List (List ℕ)) : Type 0 where
  pub many : length rows ≡ count
  pub steps : All (λ x. length x ≡ n) rows

-- the facts of all rows
pub record AreRows (rows : RowsValue) : Type 0 where
  pub steps : rows.step_count ≤ 120
  pub sweeps : rows.sweeps ≤ 8
  pub links : length rows.figures ≤ 1000
  pub outs : AreSized ((rows.sweeps + 1) * length rows.figures) rows.step_count rows.outs
  pub arrivals : AreSized (length rows.figures) rows.step_count rows.arrivals
  pub go : AreSized (length rows.figures) rows.step_count rows.go
  pub queue : AreSized (length rows.figures) rows.step_count rows.queue
  pub small : All (λ x. All (λ v. v < 2 ^ 30) x) rows.outs
  pub figures : All AreSmall rows.figures
