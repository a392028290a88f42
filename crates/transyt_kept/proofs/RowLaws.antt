-- Rows of n values each, and one of them written.
use Rattle.std.proofs.Common.{◌≡◌, ℕ, List, length, set, replicate, ◌∙◌}
use Rattle.std.proofs.lemmas.List.{length-set, length-replicate}
use Rattle.std.proofs.lemmas.List.Elements.{All-set, All-replicate}
use Rattle.transyt_kept.specs.Rows.{empty_table, AreSized}

-- with a row of n values written each has n
pub sized_set : {count n : ℕ} {rows : List (List ℕ)} → AreSized count n rows → (p : ℕ) (x : List ℕ) → length x ≡ n
    → AreSized count n (set rows p x)
sized_set {count} {n} {rows} sized p x long = record {
  many = length-set rows p x ∙ sized.many;
  steps = All-set (λ y. length y ≡ n) rows p x long sized.steps;
}

-- and so has each row of 0
pub sized_empty : (count n : ℕ) → AreSized count n (empty_table count n)
sized_empty count n = record {
  many = length-replicate count (replicate n 0);
  steps = All-replicate (λ y. length y ≡ n) count (replicate n 0) (length-replicate {A = ℕ} n 0);
}
