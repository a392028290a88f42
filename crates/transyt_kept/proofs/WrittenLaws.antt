-- The facts of rows stay where a part of them is written.
use Rattle.std.proofs.Common.{◌≡◌, ℕ, ◌+◌, ◌-◌, ◌*◌, ◌^◌, ◌<◌, ◌≤◌, List, length, get_or, set, replicate, All}
use Rattle.std.proofs.Common.{rules, ap, sym, ◌∙◌, arith, sum_by}
use Rattle.std.proofs.lemmas.List.{length-set, length-replicate}
use Rattle.std.proofs.lemmas.List.Elements.{All-set, All-replicate}
use Rattle.std.proofs.lemmas.List.Folds.{sum_by-replicate}
use Rattle.transyt_delay.specs.declared.figures.Figures.{Figures}
use Rattle.transyt_kept.specs.Cell.{no_figures, AreSmall}
use Rattle.transyt_kept.specs.Rows.{RowsValue, empty_rows, with_go, with_figures, AreRows}
use Rattle.transyt_kept.specs.Versions.{AreKept}
use Rattle.transyt_kept.proofs.IndexLaws.{weighed_sum}
use Rattle.transyt_kept.proofs.RowLaws.{sized_set, sized_empty}

module _ {link_count : ℕ} {rows mark : RowsValue} {index mark_index : ℕ}
    (kept : AreKept link_count rows mark index mark_index) where
  -- departures are written
  pub out_written : (p : ℕ) (x : List ℕ) → length x ≡ rows.step_count → All (λ v. v < 2 ^ 30) x
      → AreKept link_count (record rows { outs = set rows.outs p x }) mark index mark_index
  out_written p x long small =
      let are = kept.rows in
      search (rules, kept, are, sized_set, All-set (λ y. All (λ v. v < 2 ^ 30) y) rows.outs p x small are.small)

  -- the arrivals of a link and its queue are
  pub arrivals_written : (l : ℕ) (a q : List ℕ) → length a ≡ rows.step_count → length q ≡ rows.step_count
      → AreKept link_count (record rows { arrivals = set rows.arrivals l a; queue = set rows.queue l q }) mark index mark_index
  arrivals_written l a q a_long q_long = search (rules, kept, kept.rows, sized_set)

  -- its GO is
  pub go_written : (l : ℕ) (g : List ℕ) → length g ≡ rows.step_count → AreKept link_count (with_go rows l g) mark index mark_index
  go_written l g long = search (rules, kept, kept.rows, sized_set)

  -- its figures are, and the index goes by the difference
  pub figures_written : (l : ℕ) (f was : Figures) → l < length rows.figures → AreSmall f
      → was ≡ get_or rows.figures l no_figures
      → AreKept link_count (with_figures rows l f) mark (index - was.index + f.index) mark_index
  figures_written l f was inside small at =
      let are = kept.rows in
      let same : length rows.figures ≡ length (set rows.figures l f) = sym (length-set rows.figures l f) in
      record {
        rows = grind (arith, are, same, All-set AreSmall rows.figures l f small are.figures, ap (λ n. (rows.sweeps + 1) * n) same);
        links = sym same ∙ kept.links;
        index_sum = weighed_sum rows.figures l was.index index f no_figures inside kept.index_sum
            (ap (λ (g : Figures). g.index) at);
        mark_rows = kept.mark_rows;
        mark_links = kept.mark_links;
        mark_index_sum = kept.mark_index_sum;
      }

-- rows in which all is 0
pub empty_are : (n sweeps links : ℕ) → n ≤ 120 → sweeps ≤ 8 → links ≤ 1000 → AreRows (empty_rows n sweeps links)
empty_are n sweeps links steps swept few =
    let zero_value : ℕ = 0 in
    let same : links ≡ length (replicate links no_figures) = sym (length-replicate links no_figures) in
    let small = All-replicate (λ y. All (λ v. v < 2 ^ 30) y) ((sweeps + 1) * links) (replicate n zero_value)
    (All-replicate (λ v. v < 2 ^ 30) n zero_value (omega arith)) in
    let none = All-replicate AreSmall links no_figures
    (record { uniform = omega arith; random = omega arith; index = omega arith }) in
    grind (arith, same, ap (λ k. (sweeps + 1) * k) same, sized_empty links n, sized_empty ((sweeps + 1) * links) n, small, none)

-- and their index is 0
pub empty_index : (links : ℕ) → sum_by (λ (f : Figures). f.index) (replicate links no_figures) ≡ 0
empty_index links = sum_by-replicate (λ (f : Figures). f.index) links no_figures ∙ omega arith

-- so they keep to what rows with a mark keep to
pub empty_kept : (n sweeps links : ℕ) → n ≤ 120 → sweeps ≤ 8 → links ≤ 1000
    → AreKept links (empty_rows n sweeps links) (empty_rows n sweeps links) 0 0
empty_kept n sweeps links steps swept few = record {
  rows = empty_are n sweeps links steps swept few;
  links = length-replicate links no_figures;
  index_sum = sym (empty_index links);
  mark_rows = empty_are n sweeps links steps swept few;
  mark_links = length-replicate links no_figures;
  mark_index_sum = sym (empty_index links);
}
