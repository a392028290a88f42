-- Sums over the last steps round a cycle.
use Rattle.std.proofs.Common.{◌≡◌, ℕ, zero, suc, ◌+◌, ◌-◌, ◌%◌, ◌<◌, ◌≤◌, List, length, get_or, take, ap, arith}
use Rattle.std.proofs.Common.{sum, ◌∙◌, suc-add}
use Rattle.std.proofs.lemmas.List.{take_all}
use Rattle.std.proofs.lemmas.List.Sums.{sum_by_more}
use Rattle.std.proofs.lemmas.List.FromFn.{sum_by-map-range_with_len_more}
use Rattle.std.proofs.Math.Nat.{mod_self, mod-eq_of_lt}
use Rattle.transyt_cycle.specs.Cycle.{minus_mod, step_before}
use Rattle.transyt_cycle.proofs.CycleLaws.{minus_mod-turns, minus_mod-step_before, step_before-lt}
use Rattle.transyt_profile.specs.StopLine.{sum_back, sum_at_places}

-- the sum back to step 0 is that of the steps from 0 to i
back_front : (xs : List ℕ) (i : ℕ) → i < length xs → sum_back xs i (suc i) ≡ sum (take (i + 1) xs)
unfolding sum_back
back_front xs zero below = omega (arith, sum_by_more (λ x. x) xs 0 0 below)
back_front xs (suc i) below =
    let next : suc i ≡ i + 1 = omega arith in
    omega (
      arith,
      back_front xs i (omega arith),
      sum_by_more (λ x. x) xs (suc i) 0 below,
      ap (λ k. sum (take k xs)) next,
    )

-- the sum over one step more is the sum so far and the step at the far end
back_more : (xs : List ℕ) (n i : ℕ) → i < length xs
    → sum_back xs i (suc n) ≡ sum_back xs i n + get_or xs (minus_mod (length xs) i n) 0
unfolding sum_back
back_more xs zero i below =
    let none : 0 % length xs ≡ 0 = mod-eq_of_lt (omega arith) in
    omega (arith, ap (λ k. get_or xs k 0) (minus_mod-turns (length xs) i 0 below none))
back_more xs (suc n) i below =
    let next : n + 1 ≡ suc n = omega arith in
    omega (
      arith,
      back_more xs n (step_before (length xs) i) (step_before-lt (length xs) i below),
      ap (λ k. get_or xs k 0) (minus_mod-step_before (length xs) i n below ∙ ap (minus_mod (length xs) i) next),
    )

-- the walk back and the places are one sum
pub back_at_places : (xs : List ℕ) (n i : ℕ) → i < length xs → sum_back xs i n ≡ sum_at_places xs i n
unfolding sum_back
back_at_places xs zero i below = omega arith
back_at_places xs (suc n) i below =
    let next : n + 1 ≡ suc n = omega arith in
    omega (
      arith,
      back_more xs n i below,
      back_at_places xs n i below,
      sum_by-map-range_with_len_more (λ x. x) (λ m. get_or xs (minus_mod (length xs) i m) 0) 0 n n (omega arith),
      ap (sum_at_places xs i) next,
    )

-- the sum once round the cycle is the same from the step before
back_turned : (xs : List ℕ) (i : ℕ) → i < length xs
    → sum_back xs (step_before (length xs) i) (length xs) ≡ sum_back xs i (length xs)
unfolding sum_back
back_turned xs i below =
    omega (
      arith,
      back_more xs (length xs) i below,
      ap (λ k. get_or xs k 0) (minus_mod-turns (length xs) i (length xs) below (mod_self (length xs))),
    )

-- so it is the sum of all
pub back_full : (xs : List ℕ) (i : ℕ) → i < length xs → sum_back xs i (length xs) ≡ sum xs
back_full xs zero below =
    let last : ℕ = length xs - 1 in
    let whole : suc last ≡ length xs = omega arith in
    omega (
      arith,
      back_turned xs zero below,
      back_front xs last (omega arith),
      ap (sum_back xs last) whole,
      ap sum (take_all (last + 1) xs (omega arith)),
    )
back_full xs (suc i) below = omega (arith, back_turned xs (suc i) below, back_full xs i (omega arith))

-- more steps never sum to less
back_grows : (xs : List ℕ) (n m i : ℕ) → sum_back xs i n ≤ sum_back xs i (n + m)
unfolding sum_back
back_grows xs zero m i = omega arith
back_grows xs (suc n) m i = rw suc-add (omega (arith, back_grows xs n m (step_before (length xs) i)))

-- the sum over up to a turn is within the sum over the cycle
pub back-le : (xs : List ℕ) (n i : ℕ) → i < length xs → n ≤ length xs → sum_back xs i n ≤ sum xs
back-le xs n i below most =
    let whole : n + (length xs - n) ≡ length xs = omega arith in
    omega (arith, back_grows xs n (length xs - n) i, ap (sum_back xs i) whole, back_full xs i below)
