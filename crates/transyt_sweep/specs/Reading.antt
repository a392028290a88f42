-- The rows of a network: what a link reads of them, and a link weighed anew.
use Rattle.std.specs.Prelude.{◌≡◌, ℕ, List, length, slice_index_or}
use Rattle.transyt_delay.specs.declared.figures.Figures.{Figures}
use Rattle.transyt_delay.specs.Figures.{index_of}
use Rattle.transyt_net.specs.Parts.{Network, link_of}
use Rattle.transyt_kept.specs.Cell.{no_figures}
use Rattle.transyt_kept.specs.Rows.{RowsValue, out_at, with_figures}
use Rattle.transyt_sweep.specs.Sweeps.{read_at}

-- the rows have the network's steps, sweeps and links
pub record Fits (net : Network) (rows : RowsValue) : Type 0 where
  pub step_count : rows.step_count ≡ net.frame.step_count
  pub sweeps : rows.sweeps ≡ net.frame.sweeps
  pub link_count : length rows.figures ≡ length net.links

-- the departures that link l, at sweep s, reads of link j in these rows
abbrev pub read_in : RowsValue → ℕ → ℕ → ℕ → List ℕ
read_in rows s l j = out_at rows (read_at s l j) j

-- the figures with the index that these weights give
abbrev pub reweighed : Network → ℕ → Figures → Figures
reweighed net l f = record f {
  index = index_of f.uniform f.random f.stops net.frame.stop_penalty (link_of net l).weights;
}

-- the rows with link l weighed anew
abbrev pub with_weights : RowsValue → Network → ℕ → RowsValue
with_weights rows net l = with_figures rows l (reweighed net l (slice_index_or rows.figures l no_figures))
