-- Rows of n values each, one after another in one piece of memory.
use Rattle.std.proofs.Common.{◌≡◌, ◌≢◌, ℕ, ◌+◌, ◌-◌, ◌*◌, ◌<◌, ◌≤◌, List, [], length, take, drop, ◌++◌, set, get_or}
use Rattle.std.proofs.Common.{replicate, ap, sym, ◌∙◌, arith, ◌⊎◌, inl, inr, length-append, length-drop}
use Rattle.std.specs.Prelude.{slice_range}
use Rattle.std.proofs.lemmas.Bool.{cases_eq, cases_lt}
use Rattle.std.proofs.lemmas.Grind.{get_or-set_at}
use Rattle.std.proofs.lemmas.List.{length-take-le, length-set, length-replicate, get_or-set_other, get_or-replicate}
use Rattle.std.proofs.lemmas.List.{drop-replicate, replicate-append-replicate, take-replicate, take_all, take_at}
use Rattle.std.proofs.lemmas.List.FromFn.{length-map-range_with_len, get_or-map-range_with_len, fill_by_all}
use Rattle.std.proofs.lemmas.Slice.{between-put_mid, between_is, take-put_mid_below, drop-put_mid}
use Rattle.std.proofs.Math.Nat.{mul-le-mul_right}
use borrow.Rule.Slice.PartMut.{put_mid}
use Rattle.transyt_kept.specs.Rows.{row, empty_table}
use Rattle.transyt_kept.specs.Versions.{cut_rows}

-- row p
abbrev pub piece : ℕ → List ℕ → ℕ → List ℕ
piece n values p = slice_range values (p * n) (p * n + n)

-- the values with x as row p
abbrev pub put_piece : ℕ → List ℕ → ℕ → List ℕ → List ℕ
put_piece n values p x = put_mid (p * n) n values x

-- any other row than the one that was written stays
piece_elsewhere : (n : ℕ) (values : List ℕ) (p : ℕ) (x : List ℕ) (q : ℕ) → length x ≡ n → p * n ≤ length values → q ≢ p
    → piece n (put_piece n values p x) q ≡ piece n values q
piece_elsewhere n values p x q len room other = by (cases_lt q p)
  where
    by : (q < p) ⊎ (p ≤ q) → piece n (put_piece n values p x) q ≡ piece n values q
    by (inl before) =
        let end : q * n + n ≤ p * n = omega (arith, mul-le-mul_right {m = q + 1} {n = p} n (omega arith)) in
        between_is (put_piece n values p x) (q * n) (q * n + n)
        ∙ ap (drop (q * n)) (take-put_mid_below (p * n) n values x (q * n + n) end room)
        ∙ sym (between_is values (q * n) (q * n + n))
    by (inr after) =
        let start : p * n + n ≤ q * n = omega (arith, mul-le-mul_right {m = p + 1} {n = q} n (omega arith)) in
        ap (take (q * n + n - q * n)) (drop-put_mid (p * n) n values x (q * n) start room len)

module _ (count n : ℕ) (values : List ℕ) where
  -- there are as many rows
  pub cut_length : length (cut_rows count n values) ≡ count
  unfolding cut_rows
  cut_length = length-map-range_with_len (piece n values) 0 count

  -- the row at a place
  pub cut_row : (p : ℕ) → p < count → row (cut_rows count n values) p ≡ piece n values p
  unfolding cut_rows
  cut_row p inside = get_or-map-range_with_len (piece n values) 0 count p p [] inside (omega arith)

  module _ (long : length values ≡ count * n) (p : ℕ) (inside : p < count) where
    -- it is within the values
    pub cut_room : p * n + n ≤ length values
    cut_room = omega (arith, long, mul-le-mul_right {m = p + 1} {n = count} n (omega arith))

    -- it has n of them
    pub cut_steps : length (row (cut_rows count n values) p) ≡ n
    cut_steps =
        ap length (cut_row p inside)
        ∙ length-take-le (p * n + n - p * n) (drop (p * n) values)
        (omega (arith, length-drop (p * n) values, cut_room))
        ∙ omega arith

    -- with row p written
    pub cut_put : (x : List ℕ) → length x ≡ n
        → cut_rows count n (put_piece n values p x) ≡ set (cut_rows count n values) p x
    unfolding cut_rows
    cut_put x len =
        sym (fill_by_all (piece n (put_piece n values p x)) (set (cut_rows count n values) p x) count []
        (length-set (cut_rows count n values) p x ∙ cut_length) (λ q there. by q there (cases_eq q p)))
      where
        by : (q : ℕ) → q < count → (q ≡ p) ⊎ (q ≡ p → ⊥)
            → get_or (set (cut_rows count n values) p x) q [] ≡ piece n (put_piece n values p x) q
        by q there (inl same) =
            get_or-set_at (cut_rows count n values) p q x [] same (omega (arith, cut_length, inside))
            ∙ sym (ap (piece n (put_piece n values p x)) same
            ∙ between-put_mid (p * n) n values x (p * n + n) (omega (arith, cut_room)) (omega (arith, len)))
        by q there (inr other) =
            get_or-set_other (cut_rows count n values) p q x [] other
            ∙ cut_row q there
            ∙ sym (piece_elsewhere n values p x q len (omega (arith, cut_room)) other)

-- as many values as before
length-put : (a k : ℕ) (values x : List ℕ) → length x ≡ k → a + k ≤ length values
    → length (put_mid a k values x) ≡ length values
length-put a k values x len room =
    omega (
      arith,
      length-append (take a values) (x ++ drop k (drop a values)),
      length-append x (drop k (drop a values)),
      length-take-le a values (omega arith),
      length-drop k (drop a values),
      length-drop a values,
    )

-- the vector of the values, of which there are len, with x as row p
abbrev pub written : ℕ → List ℕ → ℕ → List ℕ → ℕ → List ℕ
written n values p x len =
    let put : List ℕ = put_mid (p * n) (p * n + n - p * n) values x in
    take len (put ++ drop (length put) values)

module _ (count n : ℕ) (values : List ℕ) (long : length values ≡ count * n) (p : ℕ) (inside : p < count) (x : List ℕ)
    (steps : length x ≡ n) (len : ℕ) (all : len ≡ length values) where
  room : p * n + n ≤ length values
  room = cut_room count n values long p inside

  written_is : written n values p x len ≡ put_piece n values p x
  written_is =
      let width : p * n + n - p * n ≡ n = omega arith in
      let put : List ℕ = put_mid (p * n) (p * n + n - p * n) values x in
      let same : length put ≡ len =
      length-put (p * n) (p * n + n - p * n) values x (omega (arith, steps)) (omega (arith, room)) ∙ sym all in
      take_at put (drop (length put) values) len same ∙ ap (λ k. put_mid (p * n) k values x) width

  -- it has as many values as before
  pub length-written : length (written n values p x len) ≡ length values
  length-written = ap length written_is ∙ length-put (p * n) n values x steps room

  -- and these rows
  pub cut_written : cut_rows count n (written n values p x len) ≡ set (cut_rows count n values) p x
  cut_written = ap (cut_rows count n) written_is ∙ cut_put count n values long p inside x steps

-- rows of 0
pub cut_empty : (count n : ℕ) → cut_rows count n (replicate (count * n) 0) ≡ empty_table count n
unfolding cut_rows
cut_empty count n =
    sym (fill_by_all (piece n (replicate (count * n) 0)) (empty_table count n) count []
    (length-replicate count (replicate n 0))
    (λ p inside. get_or-replicate count p (replicate n 0) [] inside ∙ sym (zeros p inside)))
  where
    zeros : (p : ℕ) → p < count → piece n (replicate (count * n) 0) p ≡ replicate n 0
    zeros p inside =
        let none : ℕ = 0 in
        let room : p * n + n ≤ count * n = omega (arith, mul-le-mul_right {m = p + 1} {n = count} n (omega arith)) in
        let width : p * n + n - p * n ≡ n = omega arith in
        ap (λ k. take k (drop (p * n) (replicate (count * n) none))) width
        ∙ ap (take n) (drop-replicate (p * n) (count * n) none)
        ∙ take-replicate n (count * n - p * n) none (omega arith)

-- with a row of 0 more
pub empty_more : (row n : ℕ) (values : List ℕ) → values ≡ replicate (row * n) 0
    → take ((row + 1) * n) values ++ replicate ((row + 1) * n - length values) 0 ≡ replicate ((row + 1) * n) 0
empty_more row n values zeros =
    let long : length values ≡ row * n = ap length zeros ∙ length-replicate (row * n) 0 in
    let left : (row + 1) * n - length values ≡ n = omega (arith, long) in
    let all : take ((row + 1) * n) values ≡ values = take_all ((row + 1) * n) values (omega (arith, long)) in
    let end : row * n + n ≡ (row + 1) * n = omega arith in
    rw (left, all, zeros, ← end) (replicate-append-replicate (row * n) n 0)
