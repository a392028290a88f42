-- Lists over the places below a limit, and the keys of what stands there.
use Rattle.std.proofs.Common.{◌≡◌, ℕ, suc, zero, ◌<◌, true, false, List, [], ◌∷◌, ◌++◌, map, refl, sym, ap, ◌∙◌}
use Rattle.std.proofs.Common.{arith, add-one, nat_eq, Some, inl, inr}
use Rattle.std.proofs.lemmas.Bool.{cases_Bool, cases_eq, eq-eqb, or_from, or_left, or_right}
use Rattle.std.proofs.lemmas.List.{map-append}
use Rattle.std.proofs.lemmas.List.Folds.{list_any-append}
use Rattle.std.proofs.lemmas.List.FromFn.{map-range_with_len_more}
use Rattle.std.specs.List.{list_any, range_with_len}
use Rattle.transyt_net.specs.Valid.{is_among, numbered}
use Rattle.transyt_net.proofs.AfterLaws.{numbered_after}

-- one place more
places_more : {A : Type 0} (f : ℕ → A) (n : ℕ) → map f (range_with_len 0 (suc n)) ≡ map f (range_with_len 0 n) ++ f n ∷ []
places_more f n = ap (λ m. map f (range_with_len 0 m)) (sym (add-one n)) ∙ map-range_with_len_more f 0 n n (omega arith)

-- the keys of one place more
keys_more : {A : Type 0} (key : A → ℕ) (f : ℕ → A) (n k : ℕ)
    → is_among (map key (map f (range_with_len 0 (suc n)))) k
    ≡ list_any (nat_eq k) (map key (map f (range_with_len 0 n)) ++ key (f n) ∷ [])
keys_more key f n k =
    ap (λ xs. is_among (map key xs) k) (places_more f n)
    ∙ ap (λ ks. is_among ks k) (map-append key (map f (range_with_len 0 n)) (f n ∷ []))

-- a number that is the key of no place isn't among the keys
pub not_among : {A : Type 0} (key : A → ℕ) (f : ℕ → A) (n k : ℕ) → ((i : ℕ) → i < n → nat_eq k (key (f i)) ≡ false)
    → is_among (map key (map f (range_with_len 0 n))) k ≡ false
not_among key f zero k h = refl
not_among key f (suc n) k h =
    keys_more key f n k
    ∙ list_any-append (nat_eq k) (map key (map f (range_with_len 0 n))) (key (f n) ∷ [])
    ∙ or_from _ _ (not_among key f n k (λ i inside. h i (omega arith))) (or_from _ _ (h n (omega arith)) refl)

-- the key of a place is among the keys
pub among : {A : Type 0} (key : A → ℕ) (f : ℕ → A) (n i k : ℕ) → i < n → key (f i) ≡ k
    → is_among (map key (map f (range_with_len 0 n))) k ≡ true
among key f zero i k inside is = absurd (omega arith)
among key f (suc n) i k inside is =
    rw (keys_more key f n k, list_any-append (nat_eq k) (map key (map f (range_with_len 0 n))) (key (f n) ∷ [])) (
    elim (cases_eq i n) [
      | inl at ↦ or_right _ _ (or_left _ _ (eq-eqb k (key (f n)) (sym is ∙ ap (λ p. key (f p)) at)))
      | inr apart ↦ or_left _ _ (among key f n i k (omega (arith, inside, apart)) is)
    ])

-- a part that a number names is named in a longer list too
numbered_more : {A : Type 0} (key : A → ℕ) (xs ys : List A) (k : ℕ) (x : A) → numbered key xs k ≡ Some x
    → numbered key (xs ++ ys) k ≡ Some x
numbered_more key [] ys k x h = absurd (cc)
numbered_more key (y ∷ xs) ys k x h =
    elim (cases_Bool (nat_eq k (key y))) [
      | inl here ↦ rw here (rw here at h)
      | inr later ↦ rw later (numbered_more key xs ys k x (rw later at h))
    ]

-- the part at a place is the one that its number names, where numbers rise
pub numbered_at : {A : Type 0} (key : A → ℕ) (f : ℕ → A) (n i : ℕ)
    → ((a b : ℕ) → a < b → nat_eq (key (f b)) (key (f a)) ≡ false) → i < n
    → numbered key (map f (range_with_len 0 n)) (key (f i)) ≡ Some (f i)
numbered_at key f zero i apart inside = absurd (omega arith)
numbered_at key f (suc n) i apart inside =
    let xs = map f (range_with_len 0 n) in
    ap (λ ys. numbered key ys (key (f i))) (places_more f n)
    ∙ elim (cases_eq i n) [
      | inl at ↦
          rw at (numbered_after key xs [] (f n) (not_among key f n (key (f n)) (λ a before. apart a n before)))
      | inr other ↦
          numbered_more key xs (f n ∷ []) (key (f i)) (f i) (numbered_at key f n i apart (omega (arith, inside, other)))
    ]
