-- Tests of the numbers below a limit: whether all of them pass, and whether one does.
use Rattle.std.proofs.Common.{◌≡◌, ℕ, suc, zero, ◌+◌, ◌<◌, Bool, true, false, [], ◌∷◌, ◌++◌, ◌||◌, ◌&&◌, refl}
use Rattle.std.proofs.Common.{arith}
use Rattle.std.proofs.lemmas.Bool.Decides.{nat_tests}
use Rattle.std.specs.List.{list_all, list_any, range_with_len}
use Rattle.std.proofs.lemmas.List.Folds.{list_all-append, list_any-append}

-- one number more
range_more : (a n : ℕ) → range_with_len a (suc n) ≡ range_with_len a n ++ (a + n) ∷ []
range_more a zero = grind arith
range_more a (suc n) = grind (arith, range_more (a + 1) n)

-- whether all below n + 1 pass
all_more : (test : ℕ → Bool) (n : ℕ) → list_all test (range_with_len 0 (n + 1)) ≡ (list_all test (range_with_len 0 n) && test n)
all_more test n = grind (arith, nat_tests, range_more 0 n, list_all-append test (range_with_len 0 n) (n ∷ []))

-- whether one below n + 1 passes
pub any_more : (p : ℕ → Bool) (n : ℕ) → list_any p (range_with_len 0 (n + 1)) ≡ (list_any p (range_with_len 0 n) || p n)
any_more p n = grind (arith, nat_tests, range_more 0 n, list_any-append p (range_with_len 0 n) (n ∷ []))

-- where all numbers below n pass, and n does
pub all_places_more : (test : ℕ → Bool) (n : ℕ) → list_all test (range_with_len 0 n) ≡ true → test n ≡ true
    → list_all test (range_with_len 0 (n + 1)) ≡ true
all_places_more test n before here = grind (arith, nat_tests, all_more test n)

-- each passes where all do
pub all_below : (test : ℕ → Bool) (n : ℕ) → list_all test (range_with_len 0 n) ≡ true → (k : ℕ) → k < n
    → test k ≡ true
all_below test zero all k inside = absurd (omega arith)
all_below test (suc n) all k inside = grind (arith, nat_tests, all_more test n, all_below test n)

-- where one does not pass
pub not_all_places : (test : ℕ → Bool) (n k : ℕ) → k < n → test k ≡ false → list_all test (range_with_len 0 n) ≡ false
not_all_places test n k inside fails = grind (arith, nat_tests, all_below test n)

-- all pass where each does
pub each_below : (test : ℕ → Bool) (n : ℕ) → ((k : ℕ) → k < n → test k ≡ true)
    → list_all test (range_with_len 0 n) ≡ true
each_below test zero each = refl
each_below test (suc n) each = grind (arith, nat_tests, all_more test n, each n, each_below test n (λ k less. each k (omega arith)))

-- one that does not pass
pub lacks_below : (test : ℕ → Bool) (n : ℕ) → list_all test (range_with_len 0 n) ≡ false
    → (k : ℕ) × (k < n) × (test k ≡ false)
lacks_below test zero fails = absurd (cc)
lacks_below test (suc n) fails = by (test n) refl (lacks_below test n)
  where
    by : (b : Bool) → test n ≡ b → (list_all test (range_with_len 0 n) ≡ false → (k : ℕ) × (k < n) × (test k ≡ false))
        → (k : ℕ) × (k < suc n) × (test k ≡ false)
    by false here rest = (n, omega arith, here)
    by true here rest =
        let found = rest (grind (arith, nat_tests, all_more test n)) in (found.0, omega (arith, found.1), found.2)

-- where none passes
pub none_below : (p : ℕ → Bool) (m : ℕ) → ((j : ℕ) → j < m → p j ≡ false) → list_any p (range_with_len 0 m) ≡ false
none_below p zero h = refl
none_below p (suc m) h = grind (arith, nat_tests, any_more p m, h m, none_below p m (λ j less. h j (omega arith)))

-- where one passes
pub some_below : (p : ℕ → Bool) (m k : ℕ) → k < m → p k ≡ true → list_any p (range_with_len 0 m) ≡ true
some_below p zero k l h = absurd (omega arith)
some_below p (suc m) k l h = grind (arith, nat_tests, any_more p m, some_below p m k)

-- one that passes
pub found_below : (p : ℕ → Bool) (m : ℕ) → list_any p (range_with_len 0 m) ≡ true → (k : ℕ) × (k < m) × (p k ≡ true)
found_below p zero h = absurd (cc)
found_below p (suc m) h = by (p m) refl (found_below p m)
  where
    by : (b : Bool) → p m ≡ b → (list_any p (range_with_len 0 m) ≡ true → (k : ℕ) × (k < m) × (p k ≡ true))
        → (k : ℕ) × (k < suc m) × (p k ≡ true)
    by true here rest = (m, omega arith, here)
    by false here rest =
        let found = rest (grind (arith, nat_tests, any_more p m)) in (found.0, omega (arith, found.1), found.2)
