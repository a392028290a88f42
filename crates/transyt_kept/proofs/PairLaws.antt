-- The place of a link's row at a sweep.
use Rattle.std.proofs.Common.{◌≡◌, ◌≢◌, ℕ, ◌+◌, ◌*◌, ◌<◌, ◌≤◌, List, [], length, ap, arith, ◌⊎◌, inl, inr}
use Rattle.std.proofs.lemmas.Bool.{cases_lt}
use Rattle.std.proofs.lemmas.List.{get_or-set_same, get_or-set_other, length-set}
use Rattle.std.proofs.Math.Nat.{mul-le-mul_right}
use Rattle.transyt_kept.specs.Cell.{CellValue}
use Rattle.transyt_kept.specs.Rows.{RowsValue, row, pair_place, out_at, with_out, with_rest, AreRows}

-- the row of a pair is within the rows
pub pair_inside : (sweeps links s l : ℕ) → s ≤ sweeps → l < links → s * links + l < (sweeps + 1) * links
pair_inside sweeps links s l swept inside =
    omega (arith, mul-le-mul_right {m = s + 1} {n = sweeps + 1} links (omega arith))

earlier : (links t k s l : ℕ) → k < links → t < s → t * links + k < s * links + l
earlier links t k s l inside before = omega (arith, mul-le-mul_right {m = t + 1} {n = s} links (omega arith))

-- two pairs have two rows
pub pairs_apart : (links t k s l : ℕ) → k < links → l < links → (t ≡ s → k ≡ l → ⊥)
    → t * links + k ≢ s * links + l
pairs_apart links t k s l k_inside l_inside apart same = by (cases_lt t s) (cases_lt s t)
  where
    by : (t < s) ⊎ (s ≤ t) → (s < t) ⊎ (t ≤ s) → ⊥
    by (inl before) _ = absurd (omega (arith, earlier links t k s l k_inside before))
    by (inr from) (inl after) = absurd (omega (arith, earlier links s l t k l_inside after))
    by (inr from) (inr to) =
        let sweep : t ≡ s = omega arith in
        apart sweep (omega (arith, ap (λ u. u * links) sweep))

module _ (rows : RowsValue) (kept : AreRows rows) (s l : ℕ) (swept : s ≤ rows.sweeps) (inside : l < length rows.figures)
  where
    pair_there : pair_place rows s l < (rows.sweeps + 1) * length rows.figures
    pair_there = pair_inside rows.sweeps (length rows.figures) s l swept inside

    pub out_there : pair_place rows s l < length rows.outs
    out_there = omega (arith, kept.outs.many, pair_there)

    -- departures that were put are there
    pub out_here : (x : List ℕ) → out_at (with_out rows s l x) s l ≡ x
    out_here x = get_or-set_same rows.outs (pair_place rows s l) x [] out_there

-- elsewhere departures stay
pub out_elsewhere : (rows : RowsValue) (s l : ℕ) → l < length rows.figures → (x : List ℕ) (t k : ℕ)
    → k < length rows.figures → (t ≡ s → k ≡ l → ⊥) → out_at (with_out rows s l x) t k ≡ out_at rows t k
out_elsewhere rows s l inside x t k there apart =
    get_or-set_other rows.outs (pair_place rows s l) (pair_place rows t k) x []
    (pairs_apart (length rows.figures) t k s l there inside apart)

-- the rest of the last sweep doesn't move the departures
pub out_shown : (rows : RowsValue) (l : ℕ) (c : CellValue) (t k : ℕ) → out_at (with_rest rows l c) t k ≡ out_at rows t k
out_shown rows l c t k = ap (λ n. row rows.outs (t * n + k)) (length-set rows.figures l c.figures)
