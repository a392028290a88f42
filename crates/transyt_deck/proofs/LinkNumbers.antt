-- A number that stands once is apart from those before it.
use Rattle.std.proofs.Common.{◌≡◌, ℕ, ◌||◌, nat_eq, List, [], ◌∷◌, ◌++◌, map, true, false, not, refl, sym, ◌∙◌, ap}
use Rattle.std.specs.List.{list_any}
use Rattle.std.proofs.lemmas.List.{map-append}
use Rattle.std.proofs.lemmas.List.Folds.{list_any-append}
use Rattle.std.proofs.lemmas.Bool.{and_parts, or_parts, or_right, or_left, not-true, eq-eqb}
use Rattle.transyt_parts.specs.Valid.{all_differ}
use Rattle.transyt_net.specs.Valid.{is_among}
use Rattle.transyt_net.proofs.PlaceLaws.{eq_swapped}

-- a number that stands once isn't before its place
apart : (xs ys : List ℕ) (x : ℕ) → all_differ (xs ++ x ∷ ys) ≡ true → is_among xs x ≡ false
apart [] ys x h = refl
apart (z ∷ xs) ys x h =
    let parts = and_parts (not (list_any (nat_eq z) (xs ++ x ∷ ys))) (all_differ (xs ++ x ∷ ys)) h in
    let none = sym (list_any-append (nat_eq z) xs (x ∷ ys)) ∙ not-true _ parts.0 in
    let here = (or_parts (nat_eq z x) (list_any (nat_eq z) ys) ((or_parts (list_any (nat_eq z) xs) _ none).1)).0 in
    λ j. eq_swapped z x here j || apart xs ys x parts.1 j

-- the same of the keys of a list
pub key_apart : {A : Type 0} (key : A → ℕ) (xs ys : List A) (x : A)
    → all_differ (map key (xs ++ x ∷ ys)) ≡ true → is_among (map key xs) (key x) ≡ false
key_apart key xs ys x h = apart (map key xs) (map key ys) (key x) (ap all_differ (sym (map-append key xs (x ∷ ys))) ∙ h)

-- the key of an element is among the keys
pub key_among : {A : Type 0} (key : A → ℕ) (xs ys : List A) (x : A) → is_among (map key (xs ++ x ∷ ys)) (key x) ≡ true
key_among key xs ys x =
    ap (λ ks. is_among ks (key x)) (map-append key xs (x ∷ ys))
    ∙ list_any-append (nat_eq (key x)) (map key xs) (key x ∷ map key ys)
    ∙ or_right _ _ (or_left _ _ (eq-eqb (key x) (key x) refl))
