-- Sums of scaled lists.
use Rattle.std.proofs.Common.{◌≡◌, ℕ, zero, suc, ◌*◌, ◌^◌, ◌<◌, ◌≤◌, List, [], ◌∷◌, length, get_or, ap, arith, sum, map}
use Rattle.std.specs.List.{All}
use Rattle.std.proofs.lemmas.Bool.Decides.{nat_tests}
use Rattle.std.proofs.lemmas.Grind.{elements}
use Rattle.std.proofs.lemmas.List.Sums.{sum_by-cons, get_or-le-sum_by}
use Rattle.std.proofs.Math.Nat.{mul-le-mul_left, div-le_of_le-mul, le_of_mul-le-mul_right, div-mul-le_self}
use Rattle.std.proofs.lemmas.Nat.{mul-lt}
use Rattle.std.proofs.lemmas.List.{length-map}
use Rattle.transyt_profile.specs.StopLine.{scaled, arrivals_of}

-- a part of a value is at most the value
pub scaled_part : (a b value : ℕ) → b ≤ a → scaled a b value ≤ value
scaled_part a b value part = div-le_of_le-mul a (omega (arith, mul-le-mul_left value part))

-- one step is at most the sum
pub step_within : (xs : List ℕ) (i : ℕ) → i < length xs → get_or xs i 0 ≤ sum xs
step_within xs i below = get_or-le-sum_by (λ x. x) xs i 0 below

-- rounding down loses: the scaled sum times a is at most the sum times b
scaled_sum : (a b : ℕ) (xs : List ℕ) → sum (map (scaled a b) xs) * a ≤ sum xs * b
scaled_sum a b [] = omega arith
scaled_sum a b (x ∷ xs) =
    omega (
      arith,
      scaled_sum a b xs,
      div-mul-le_self (x * b) a,
      ap (λ n. n * a) (sum_by-cons (λ x. x) (scaled a b x) (map (scaled a b) xs)),
      ap (λ n. n * b) (sum_by-cons (λ x. x) x xs),
    )

-- scaled down to b, they sum to at most b
pub scaled_total : (b : ℕ) (xs : List ℕ) → b < sum xs → sum (map (scaled (sum xs) b) xs) ≤ b
scaled_total b xs above = le_of_mul-le-mul_right {k = sum xs} (omega (arith, scaled_sum (sum xs) b xs)) (omega arith)

-- an arrival times the sum that is served fits where the sum of arrivals is below 2^32
pub product_fits : (value served come : ℕ) → value ≤ come → served < come → come < 2 ^ 32 → value * served < 2 ^ 64
product_fits value served come part less fits =
    omega (arith, mul-lt value served (2 ^ 32) (2 ^ 32) (omega arith) (omega arith))

-- at each step the scaled arrivals are at most the arrivals
scaled_no_more : (a b : ℕ) (xs : List ℕ) (i : ℕ) → b ≤ a → get_or (map (scaled a b) xs) i 0 ≤ get_or xs i 0
scaled_no_more a b [] i part = omega arith
scaled_no_more a b (x ∷ xs) zero part = scaled_part a b x part
scaled_no_more a b (x ∷ xs) (suc i) part = scaled_no_more a b xs i part

-- the arrivals after the cut sum to no more than GO
pub arrivals_total : (xs go : List ℕ) → sum (arrivals_of xs go) ≤ sum go
arrivals_total xs go = grind (arith, nat_tests, scaled_total (sum go) xs)

-- at each step no more reaches it than comes
pub arrivals_no_more : (xs go : List ℕ) (i : ℕ) → get_or (arrivals_of xs go) i 0 ≤ get_or xs i 0
arrivals_no_more xs go i = grind (arith, nat_tests, scaled_no_more (sum xs) (sum go) xs i)

-- it has a value for each step of the arrivals
arrivals_length : (xs go : List ℕ) → length (arrivals_of xs go) ≡ length xs
arrivals_length xs go = grind (arith, nat_tests, length-map xs (scaled (sum xs) (sum go)))

-- so it stays within each limit
pub arrivals_small : (limit : ℕ) (xs go : List ℕ) → All (λ v. v < limit) xs → All (λ v. v < limit) (arrivals_of xs go)
arrivals_small limit xs go fit = grind (arith, elements, arrivals_length xs go, arrivals_no_more xs go)
