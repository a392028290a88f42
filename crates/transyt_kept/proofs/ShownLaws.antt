-- The last sweep, link by link.
use Rattle.std.proofs.Common.{◌≡◌, ◌≢◌, ℕ, ◌<◌, [], length, ◌∙◌, arith}
use Rattle.std.proofs.lemmas.List.{get_or-set_same, get_or-set_other}
use Rattle.transyt_kept.specs.Cell.{CellValue, no_figures}
use Rattle.transyt_kept.specs.Rows.{RowsValue, with_out, with_rest, shown_at, AreRows}
use Rattle.transyt_kept.proofs.PairLaws.{out_here, out_elsewhere, out_shown}

-- the rows with all of link l at the last sweep
abbrev pub put_shown : RowsValue → ℕ → CellValue → RowsValue
put_shown rows l c = with_rest (with_out rows rows.sweeps l c.out) l c

module _ (rows : RowsValue) (kept : AreRows rows) (l : ℕ) (c : CellValue) (inside : l < length rows.figures) where
  -- the cell that was written is the one that is shown
  pub shown_here : shown_at (put_shown rows l c) l ≡ c
  shown_here =
      let come = get_or-set_same rows.arrivals l c.arrivals [] (omega (arith, kept.arrivals.many)) in
      let going = get_or-set_same rows.go l c.go [] (omega (arith, kept.go.many)) in
      let standing = get_or-set_same rows.queue l c.queue [] (omega (arith, kept.queue.many)) in
      let leaving = out_shown (with_out rows rows.sweeps l c.out) l c rows.sweeps l
      ∙ out_here rows kept rows.sweeps l (omega arith) inside c.out in
      let weighed = get_or-set_same rows.figures l c.figures no_figures inside in
      (λ j. record { arrivals = come j; go = going j; queue = standing j; out = leaving j; figures = weighed j })

  -- and of any other link what was
  pub shown_elsewhere : (k : ℕ) → k < length rows.figures → k ≢ l
      → shown_at (put_shown rows l c) k ≡ shown_at rows k
  shown_elsewhere k there other =
      let come = get_or-set_other rows.arrivals l k c.arrivals [] other in
      let going = get_or-set_other rows.go l k c.go [] other in
      let standing = get_or-set_other rows.queue l k c.queue [] other in
      let leaving = out_shown (with_out rows rows.sweeps l c.out) l c rows.sweeps k
      ∙ out_elsewhere rows rows.sweeps l inside c.out rows.sweeps k there (λ _ e. other e) in
      let weighed = get_or-set_other rows.figures l k c.figures no_figures other in
      (λ j. record { arrivals = come j; go = going j; queue = standing j; out = leaving j; figures = weighed j })
