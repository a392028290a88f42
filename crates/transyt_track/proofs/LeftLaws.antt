-- A link that isn't due leaves what it left; its figures are weighed anew.
use Rattle.std.specs.Prelude.{slice_index_or}
use Rattle.std.proofs.lemmas.List.{set-get_or}
use Rattle.std.proofs.Common.{◌≡◌, ℕ, ◌<◌, ◌≤◌, false, List, length, ap, sym, ◌∙◌}
use Rattle.transyt_delay.specs.declared.figures.Figures.{Figures}
use Rattle.transyt_delay.specs.Figures.{figures, index_of}
use Rattle.transyt_net.specs.Parts.{Network, link_of, SameShape}
use Rattle.transyt_kept.specs.Cell.{CellValue, no_figures}
use Rattle.transyt_kept.specs.Rows.{RowsValue, shown_at, with_figures}
use Rattle.transyt_sweep.specs.Cell.{inflow, go, terms_frame, terms_of, cell_of}
use Rattle.transyt_sweep.specs.Sweeps.{out_of, read_of, cell_at, evaluated}
use Rattle.transyt_sweep.specs.Reading.{reweighed, with_weights}
use Rattle.transyt_sweep.proofs.SweepLaws.{out_of_pair}
use Rattle.transyt_track.specs.Due.{is_due}
use Rattle.transyt_track.proofs.DataLaws.{inflow_same, go_same}
use Rattle.transyt_track.proofs.DueLaws.{none_differs}

-- rows stay where the weights are equal
pub weights_stay : (a b : Network) (l : ℕ) (rows : RowsValue) → SameShape a b
    → (link_of a l).weights ≡ (link_of b l).weights → (shown_at rows l).figures ≡ (evaluated a l).figures
    → with_weights rows b l ≡ rows
unfolding evaluated
weights_stay a b l rows same weights are =
    let f : Figures = slice_index_or rows.figures l no_figures in
    let stays : reweighed b l f ≡ f =
    sym (λ j. record f { index = index_of f.uniform f.random f.stops (same j).frame.stop_penalty (weights j) })
    ∙ ap (reweighed a l) are
    ∙ sym are in
    ap (λ (g : Figures). with_figures rows l g) stays
    ∙ ap (λ fs. record rows { figures = fs }) (set-get_or rows.figures l no_figures)

module _ (a b : Network) (s l : ℕ) (same : SameShape a b) (inside : l < length a.links)
    (none : is_due a b s l ≡ false) where
  -- its work is the same, but for its weights
  pub left_worked : record (cell_at a s l) { figures = reweighed b l (cell_at a s l).figures } ≡ cell_at b s l
  left_worked =
      let parts = none_differs a b s l none in
      let come = inflow_same a b l same inside parts.0 s parts.1 in
      let room = go_same a b l same inside parts.0 s parts.2 in
      let x : List ℕ = inflow a (read_of a s l) l in
      let y : List ℕ = go a (read_of a s l) l in
      (λ j. record (cell_of a l x y) {
        figures = reweighed b l (figures (record (terms_of a l x y) { frame = terms_frame (same j).frame }));
      })
      ∙ (λ j. cell_of b l (come j) (room j))

  -- so it leaves what it left
  pub left_out : 1 ≤ s → out_of a s l ≡ out_of b s l
  left_out first =
      out_of_pair a s l first ∙ ap (λ (c : CellValue). c.out) left_worked ∙ sym (out_of_pair b s l first)
