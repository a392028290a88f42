-- The facts of the room for one link's work. No public clause cites it.
use Rattle.std.specs.Prelude.{◌≡◌, ℕ, ◌*◌, ◌^◌, ◌<◌, ◌≤◌, List, length, sum, All}
use Rattle.transyt_parts.specs.Valid as parts
use Rattle.transyt_profile.specs.declared.cut_totals.Totals.{Totals}
use Rattle.transyt_profile.specs.StopLine.{arrivals_of, stopped_of}
use Rattle.transyt_delay.specs.declared.terms.Terms.{Terms}
use Rattle.transyt_delay.specs.declared.figures.Figures.{Figures}
use Rattle.transyt_delay.specs.Figures.{figures}
use Rattle.transyt_sweep.specs.declared.cell_rows.CellRows.{CellRows}
use Rattle.transyt_sweep.specs.declared.factors.Factors.{Factors}
use Rattle.transyt_sweep.specs.declared.figures.Weights.{Weights}
use Rattle.transyt_sweep.specs.declared.figures.LazyFigures.{LazyFigures}
use Rattle.transyt_sweep.specs.declared.figures.LazyFigures.TheVariants.{Known, Open}
use Rattle.transyt_sweep.specs.Inflow.{AreFactors}
use Rattle.transyt_kept.specs.Cell.{CellValue, AreSmall}

-- the terms of the figures: the sums of arrivals and of GO over a cycle, the vehicles that stop of the arrivals after the
-- cut, and the weights
abbrev pub terms_in : List ℕ → List ℕ → List ℕ → Weights → Terms
terms_in arrivals go queue weights = record {
  arrivals = sum arrivals;
  room = sum go;
  queued = sum queue;
  stopped = stopped_of (arrivals_of arrivals go) queue;
  frame = weights.frame;
  weights = weights.link;
}

-- the figures: those that are known, else what the rows give
abbrev pub figures_in : List ℕ → List ℕ → List ℕ → LazyFigures → Figures
figures_in arrivals go queue (Known f) = f
figures_in arrivals go queue (Open weights totals) = figures (terms_in arrivals go queue weights)

-- weights and a frame's numbers with which figures can be worked out
pub record AreWeights (w : Weights) : Type 0 where
  pub cycle : 30 ≤ w.frame.cycle
  pub step_count : 0 < w.frame.step_count
  pub period : w.frame.period ≤ 120
  pub stop_penalty : w.frame.stop_penalty ≤ 9999
  pub link : parts.AreWeights w.link

-- the sums are those of the rows, and the arrivals after the cut are there where anything is cut
pub record AreTotals (rows : CellRows) (totals : Totals) : Type 0 where
  pub arrivals : totals.arrivals ≡ sum rows.arrivals.items
  pub go : totals.go ≡ sum rows.go.items
  pub cut : totals.go < totals.arrivals → rows.cut.items ≡ arrivals_of rows.arrivals.items rows.go.items
  pub cut_small : All (λ v. v < 2 ^ 48) (arrivals_of rows.arrivals.items rows.go.items)

-- figures can be worked out of these rows
pub record CanWeigh (rows : CellRows) (weights : Weights) (totals : Totals) : Type 0 where
  pub totals_are : AreTotals rows totals
  pub limits : AreWeights weights

-- figures that are known are small, and others can be worked out
abbrev pub AreFigures : CellRows → LazyFigures → Type 0
AreFigures rows (Known f) = AreSmall f
AreFigures rows (Open weights totals) = CanWeigh rows weights totals

-- the cell of these rows
abbrev pub cell_in : CellRows → LazyFigures → CellValue
cell_in rows asked = record {
  arrivals = rows.arrivals.items;
  go = rows.go.items;
  queue = rows.queue.items;
  out = rows.departures.items;
  figures = figures_in rows.arrivals.items rows.go.items rows.queue.items asked;
}

-- there is room for the work on feeds, figures are known or can be worked out, and factors are right
pub record IsScratch (rows : CellRows) (asked : LazyFigures) (room : List ℕ) (factors : List Factors) : Type 0 where
  pub room_len : length room ≡ 8 * length rows.arrivals.items
  pub told : AreFigures rows asked
  pub right : All (AreFactors (length rows.arrivals.items)) factors
