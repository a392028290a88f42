-- The square root, rounded down, is the number of two inequations.
use Rattle.std.proofs.Common.{◌≡◌, ℕ, zero, suc, ◌+◌, ◌*◌, ◌<◌, ◌≤◌, sym, arith, subst, inl, inr}
use Rattle.std.proofs.lemmas.Bool.{cases_lt}
use Rattle.std.proofs.lemmas.Bool.Decides.{nat_tests}
use Rattle.std.proofs.Math.Nat.{mul-le-mul}
use Rattle.transyt_num.specs.Root.{root, root_up_to}

-- from any n that isn't below it, the search ends at the one r between whose squares v lies
up_to_is : (v r n : ℕ) → r * r ≤ v → v < (r + 1) * (r + 1) → r ≤ n → root_up_to v n ≡ r
unfolding root_up_to
up_to_is v r zero low high within = omega arith
up_to_is v r (suc n) low high within =
    elim (cases_lt n r) as (λ w. root_up_to v (suc n) ≡ r) [
      | inl above ↦
          let here : r ≡ suc n = omega arith in
          let fits : suc n * suc n ≤ v = subst (λ (k : ℕ). k * k ≤ v) here low in grind (arith, nat_tests)
      | inr below ↦
          let more : (r + 1) * (r + 1) ≤ suc n * suc n = mul-le-mul (omega arith) (omega arith) in
          let over : v < suc n * suc n = omega arith in
          let before : root_up_to v n ≡ r = up_to_is v r n low high below in grind (arith, nat_tests)
    ]

-- no number is above its square
le_square : (r : ℕ) → r ≤ r * r
le_square zero = omega arith
le_square (suc r) = omega arith

-- a number whose square is at most v, and whose next one's isn't, is the root
pub root_is : (v r : ℕ) → r * r ≤ v → v < (r + 1) * (r + 1) → r ≡ root v
root_is v r low high = sym (up_to_is v r v low high (omega (arith, le_square r)))

-- the root is the greatest number whose square is at most v
pub root_greatest : (v s r : ℕ) → v < (s + 1) * (s + 1) → r * r ≤ v → r ≤ s
root_greatest v s r high fits =
    elim (cases_lt s r) as (λ w. r ≤ s) [
      | inl above ↦
          let more : (s + 1) * (s + 1) ≤ r * r = mul-le-mul (omega arith) (omega arith) in absurd (omega arith)
      | inr below ↦ below
    ]

-- there is but one number between whose square and the next one's v lies
pub root_only : (v s r : ℕ) → s * s ≤ v → v < (s + 1) * (s + 1) → r * r ≤ v → v < (r + 1) * (r + 1) → r ≡ s
root_only v s r s_low s_high r_low r_high =
    omega (arith, root_greatest v s r s_high r_low, root_greatest v r s r_high s_low)
