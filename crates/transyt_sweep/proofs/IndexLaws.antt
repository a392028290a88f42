-- The index of an evaluation.
use Rattle.std.proofs.Common.{◌≡◌, ℕ, length, map, sum, ap, sym, ◌∙◌, arith}
use Rattle.std.proofs.lemmas.List.{length-map, get_or-map}
use Rattle.std.proofs.lemmas.List.FromFn.{fill_by_all}
use Rattle.std.proofs.lemmas.List.Sums.{sum-map}
use Rattle.transyt_delay.specs.declared.figures.Figures.{Figures}
use Rattle.transyt_net.specs.Parts.{Network}
use Rattle.transyt_kept.specs.Cell.{CellValue, no_figures}
use Rattle.transyt_kept.specs.Rows.{RowsValue, index_in}
use Rattle.transyt_sweep.specs.Sweeps.{index_at, index}
use Rattle.transyt_sweep.specs.Front.{AreEvaluation}

abbrev by_index : Figures → ℕ
by_index f = f.index

-- the sum of the links' indexes of an evaluation is the network's index
pub index_is : (net : Network) (rows : RowsValue) → AreEvaluation net rows → index_in rows ≡ index net
index_is net rows evaluation =
    let len : length (map by_index rows.figures) ≡ length net.links =
    length-map rows.figures by_index ∙ evaluation.fits.link_count in
    sym (sum-map by_index rows.figures)
    ∙ ap sum (fill_by_all (index_at net) (map by_index rows.figures) (length net.links) 0 len
    (λ k below. get_or-map by_index rows.figures k no_figures 0 (omega (arith, evaluation.fits.link_count))
    ∙ ap (λ (c : CellValue). c.figures.index) (evaluation.shown k below)))
