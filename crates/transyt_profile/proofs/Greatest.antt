-- The greatest of a function's values.
use Rattle.std.proofs.Common.{◌≡◌, ℕ, zero, suc, ◌+◌, ◌-◌, ◌<◌, ◌≤◌, ◌⊎◌, max, ap, arith, refl, inl, inr}
use Rattle.std.proofs.lemmas.Bool.{cases_lt}
use Rattle.transyt_profile.specs.StopLine.{greatest}

-- Sums that grow at the front: the greatest excess over n + 1 of them, from that over n. The functions `a` and `g` are
-- the sums with a first value x and y, the functions `b` and `h` those without it.
pub greatest_shift : (a g b h : ℕ → ℕ) (x y n : ℕ) → b 0 ≡ 0 → h 0 ≡ 0
    → ((m : ℕ) → a (suc m) ≡ x + b m) → ((m : ℕ) → g (suc m) ≡ y + h m)
    → greatest (λ m. a m - g m) (suc n) ≡ greatest (λ m. b m - h m) n + x - y
unfolding greatest
greatest_shift a g b h x y zero b_none h_none at_a at_g = let more = at_a 0 in let less = at_g 0 in omega arith
greatest_shift a g b h x y (suc n) b_none h_none at_a at_g =
    let so_far : max (greatest (λ m. a m - g m) n) (a (suc n) - g (suc n)) ≡ greatest (λ m. b m - h m) n + x - y =
    greatest_shift a g b h x y n b_none h_none at_a at_g in
    let more = at_a (suc n) in let less = at_g (suc n) in omega arith

-- each value is at most the greatest
pub le_greatest : (f : ℕ → ℕ) (m n : ℕ) → 0 < m → m ≤ n → f m ≤ greatest f n
unfolding greatest
le_greatest f m zero positive most = absurd (omega arith)
le_greatest f m (suc n) positive most =
    let last : n < m → f m ≡ f (suc n) = λ above. ap f (omega (arith, above)) in
    grind (arith, last, le_greatest f m n positive)

-- a number that no value is above is at least the greatest
pub greatest-le : (f : ℕ → ℕ) (limit n : ℕ) → ((m : ℕ) → m ≤ n → f m ≤ limit) → greatest f n ≤ limit
unfolding greatest
greatest-le f limit zero within = omega arith
greatest-le f limit (suc n) within =
    omega (arith, greatest-le f limit n (λ m most. within m (omega arith)), within (suc n) (omega arith))

-- where a whole turn more never is above, the greatest of a turn is the greatest of a turn and one step
pub greatest_turn : (f : ℕ → ℕ) (n : ℕ) → 0 < n → f (suc n) ≤ f 1 → greatest f (suc n) ≡ greatest f n
unfolding greatest
greatest_turn f n positive less = omega (arith, le_greatest f 1 n (omega arith) positive)

-- a number is 0, or with one of g 1 .. g n it is that of a
abbrev pub IsNoneOrExcess : (a g : ℕ → ℕ) (n number : ℕ) → Type 0
IsNoneOrExcess a g n number = (number ≡ 0) ⊎ ((m : ℕ) × (0 < m) × (m ≤ n) × (number + g m ≡ a m))

-- so is the greatest excess
pub greatest_is : (a g : ℕ → ℕ) (n : ℕ) → IsNoneOrExcess a g n (greatest (λ m. a m - g m) n)
unfolding greatest
greatest_is a g zero = inl refl
greatest_is a g (suc n) =
    let before : ℕ = greatest (λ m. a m - g m) n in
    let Claim : Type 0 = IsNoneOrExcess a g (suc n) (max before (a (suc n) - g (suc n))) in
    elim (cases_lt before (a (suc n) - g (suc n))) as (λ w. Claim) [
      | inl more ↦ inr (suc n, omega arith, omega arith, omega arith)
      | inr less ↦
          elim (greatest_is a g n) as (λ w. Claim)
          [ inl none ↦ inl (omega arith) | inr some ↦ let is = some.3 in inr (some.0, some.1, omega arith, omega arith) ]
    ]
