-- A write to the first of a number, and then a change of each, is one change of each.
use Rattle.std.proofs.Common.{◌≡◌, ℕ, true, false, not, nat_eq, List, [], ◌∷◌, map, All}
use Rattle.std.proofs.Common.{refl, inl, inr}
use Rattle.std.specs.List.{list_any}
use Rattle.std.proofs.lemmas.Bool.{cases_Bool, eqb-true, not-true, and_parts, or_parts}
use Rattle.std.proofs.lemmas.List.Elements.{All-head, All-tail}
use Rattle.transyt_parts.specs.Valid.{all_differ}
use Rattle.transyt_net.specs.Valid.{on_numbered}

-- changes that agree where the number is another
rest_same : {A B : Type 0} (key : A → ℕ) (g h : A → B) (xs : List A) (k : ℕ) → list_any (nat_eq k) (map key xs) ≡ false
    → All (λ x. nat_eq k (key x) ≡ false → g x ≡ h x) xs → map g xs ≡ map h xs
rest_same key g h [] k none others = refl
rest_same {A} key g h (x ∷ xs) k none others =
    let Other : A → Type 0 = λ x. nat_eq k (key x) ≡ false → g x ≡ h x in
    let parts = or_parts (nat_eq k (key x)) (list_any (nat_eq k) (map key xs)) none in
    rw (All-head Other x xs others parts.0, rest_same key g h xs k parts.1 (All-tail Other x xs others))

-- a write to the first of a number, and then a change of each, is one change of each
pub written_all : {A B : Type 0} (key : A → ℕ) (f : A → A) (g h : A → B) (xs : List A) (k : ℕ) → all_differ (map key xs) ≡ true
    → All (λ x. nat_eq k (key x) ≡ true → g (f x) ≡ h x) xs → All (λ x. nat_eq k (key x) ≡ false → g x ≡ h x) xs
    → map g (on_numbered key f xs k) ≡ map h xs
written_all key f g h [] k differ here others = refl
written_all {A} key f g h (x ∷ xs) k differ here others =
    let parts = and_parts (not (list_any (nat_eq (key x)) (map key xs))) (all_differ (map key xs)) differ in
    let Here : A → Type 0 = λ x. nat_eq k (key x) ≡ true → g (f x) ≡ h x in
    let Other : A → Type 0 = λ x. nat_eq k (key x) ≡ false → g x ≡ h x in
    elim (cases_Bool (nat_eq k (key x))) [
      | inl same ↦
          let gone : list_any (nat_eq k) (map key xs) ≡ false = rw (eqb-true k (key x) same) (not-true _ parts.0) in
          rw (same, All-head Here x xs here same, rest_same key g h xs k gone (All-tail Other x xs others))
      | inr other ↦
          rw (
            other,
            All-head Other x xs others other,
            written_all key f g h xs k parts.1 (All-tail Here x xs here) (All-tail Other x xs others),
          )
    ]
