-- Numbers, their places, and writes by number or place.
use Rattle.std.proofs.lemmas.List.Elements.{All-nil, All-cons, All-head, All-tail}
use Rattle.std.proofs.Common.{IfSome, All, slice_get, ◌≡◌, ℕ, suc, zero, ◌<◌, Bool, true, false, not, cond, ◌||◌, List}
use Rattle.std.proofs.Common.{[], ◌∷◌, ◌++◌, length, map, get_or, set, Option, Some, None, refl, sym, ap, subst, ◌∙◌}
use Rattle.std.proofs.Common.{arith, nat_eq, ◌&&◌, is_some}
use Rattle.std.specs.List.{list_any}
use Rattle.std.proofs.lemmas.Bool.{or_left, eqb-true}
use Rattle.std.proofs.lemmas.Bool.Decides.{nat_tests}
use Rattle.std.proofs.lemmas.List.Folds.{list_any-append}
use Rattle.std.proofs.lemmas.List.Quantifiers.{position-Some}
use Rattle.std.proofs.lemmas.List.{length-map, get_or-map, set-get_or}
use Rattle.transyt_net.specs.Parts.{Network}
use Rattle.transyt_net.specs.Valid.{is_among, numbered, on_numbered, on_place, place_of, link_numbers, found_or_first}
use Rattle.transyt_net.specs.Valid.{link_place, all_differ, link_number}
use Rattle.transyt_net.specs.There.{IsPlace}
use Rattle.transyt_parts.proofs.CopyLaws.{same_length}

-- a number that is among these is among more
pub among_more : (xs ys : List ℕ) (k : ℕ) → is_among xs k ≡ true → is_among (xs ++ ys) k ≡ true
among_more xs ys k h = list_any-append (nat_eq k) xs ys ∙ or_left _ _ h

-- a test of equality, with its sides exchanged
pub eq_swapped : (a b : ℕ) → nat_eq a b ≡ false → nat_eq b a ≡ false
eq_swapped a b h = grind (arith, nat_tests)

-- where one number more stands last
pub all_differ_push : (xs : List ℕ) (y : ℕ) → all_differ (xs ++ y ∷ []) ≡ (all_differ xs && not (is_among xs y))
all_differ_push [] y = refl
all_differ_push (x ∷ xs) y = grind (arith, nat_tests, list_any-append (nat_eq x) xs (y ∷ []), all_differ_push xs y)

-- a search finds a number exactly where it is among these
pub place_found : (xs : List ℕ) (k : ℕ) → is_some (place_of xs k) ≡ is_among xs k
place_found [] k = refl
place_found (x ∷ xs) k = grind (arith, nat_tests, place_found xs k)

-- the place that is found is the place of the number
pub place_is : {A : Type 0} (key : A → ℕ) (xs : List A) (k p : ℕ) → place_of (map key xs) k ≡ Some p
    → IsPlace key xs k p
place_is key xs k p h =
    let at = position-Some (nat_eq k) (map key xs) p 0 h in
    let inside : p < length xs = subst (λ n. p < n) (length-map xs key) at.0 in
    record {
      inside = inside;
      here = λ d. ap (nat_eq k) (sym (get_or-map key xs p d 0 inside)) ∙ at.1;
      first = λ d i less. ap (nat_eq k) (sym (get_or-map key xs i d 0 (omega arith))) ∙ at.2 i less;
    }

-- a list with what stands at a place put there again
pub put_again : {A : Type 0} (xs : List A) (p : ℕ) (old new : A) → new ≡ old → old ≡ get_or xs p old → set xs p new ≡ xs
put_again xs p old new kept read = ap (set xs p) (kept ∙ read) ∙ set-get_or xs p old

-- it is inside the list
pub place_inside : {A : Type 0} (key : A → ℕ) (xs : List A) (k p : ℕ) → place_of (map key xs) k ≡ Some p → p < length xs
place_inside key xs k p at = (place_is key xs k p at).inside

-- where there are links, each number is given the place of one
pub link_place-lt : (net : Network) (number : ℕ) → 0 < length net.links → link_place net number < length net.links
link_place-lt net number some = by (place_of (link_numbers net.links) number) refl
  where
    by : (o : Option ℕ) → place_of (link_numbers net.links) number ≡ o → found_or_first o < length net.links
    by None at = some
    by (Some p) at = (place_is link_number net.links number p at).inside

place_tail : {A : Type 0} (key : A → ℕ) (x : A) (xs : List A) (k p : ℕ) → IsPlace key (x ∷ xs) k (suc p)
    → IsPlace key xs k p
place_tail key x xs k p h = record {
  inside = omega arith;
  here = h.here;
  first = λ d i less. h.first d (suc i) (omega arith);
}

-- the element of a number stands at its place
pub numbered_here : {A : Type 0} (key : A → ℕ) (xs : List A) (k p : ℕ) (d : A) → IsPlace key xs k p
    → numbered key xs k ≡ Some (get_or xs p d)
numbered_here key [] k p d h = absurd (omega arith)
numbered_here key (x ∷ xs) k zero d h = ap (λ b. cond b (Some x) (numbered key xs k)) (h.here d)
numbered_here key (x ∷ xs) k (suc p) d h =
    ap (λ b. cond b (Some x) (numbered key xs k)) (h.first d 0 (omega arith))
    ∙ numbered_here key xs k p d (place_tail key x xs k p h)

-- so it is what was read there
pub found_here : {A : Type 0} (key : A → ℕ) (xs : List A) (k p : ℕ) (x : A) → IsPlace key xs k p
    → x ≡ get_or xs p x → numbered key xs k ≡ Some x
found_here key xs k p x place read = numbered_here key xs k p x place ∙ ap (λ y. Some y) (sym read)

-- the same at a place that was found
pub found_at : {A : Type 0} (key : A → ℕ) (xs : List A) (k p : ℕ) (x : A) → place_of (map key xs) k ≡ Some p
    → x ≡ get_or xs p x → numbered key xs k ≡ Some x
found_at key xs k p x at read = found_here key xs k p x (place_is key xs k p at) read

-- a write by number is a write at the place of the number
pub on_numbered_here : {A : Type 0} (key : A → ℕ) (f : A → A) (xs : List A) (k p : ℕ) (d : A) → IsPlace key xs k p
    → on_numbered key f xs k ≡ set xs p (f (get_or xs p d))
on_numbered_here key f [] k p d h = absurd (omega arith)
on_numbered_here key f (x ∷ xs) k zero d h = ap (λ b. cond b (f x ∷ xs) (x ∷ on_numbered key f xs k)) (h.here d)
on_numbered_here key f (x ∷ xs) k (suc p) d h =
    ap (λ b. cond b (f x ∷ xs) (x ∷ on_numbered key f xs k)) (h.first d 0 (omega arith))
    ∙ ap (λ ys. x ∷ ys) (on_numbered_here key f xs k p d (place_tail key x xs k p h))

-- a write by place is a write there
pub on_place_here : {A : Type 0} (f : A → A) (xs : List A) (p : ℕ) (d : A) → p < length xs
    → on_place f xs p ≡ set xs p (f (get_or xs p d))
on_place_here f [] p d h = absurd (omega arith)
on_place_here f (x ∷ xs) zero d h = refl
on_place_here f (x ∷ xs) (suc p) d h = ap (λ ys. x ∷ ys) (on_place_here f xs p d (omega arith))

-- where a number isn't, nothing is found
pub numbered_none : {A : Type 0} (key : A → ℕ) (xs : List A) (k : ℕ) → is_among (map key xs) k ≡ false
    → numbered key xs k ≡ None
numbered_none key [] k h = refl
numbered_none key (x ∷ xs) k h = grind (arith, nat_tests, numbered_none key xs k)

-- a write by number that h can't see
pub map_kept : {A B : Type 0} (key : A → ℕ) (f : A → A) (h : A → B) (same : (x : A) → h (f x) ≡ h x) (xs : List A) (k : ℕ)
    → map h (on_numbered key f xs k) ≡ map h xs
map_kept key f h same [] k = refl
map_kept key f h same (x ∷ xs) k = grind (arith, nat_tests, same x, map_kept key f h same xs k)

-- a write that keeps the key keeps the keys
pub keys_kept : {A : Type 0} (key : A → ℕ) (f : A → A) (same : (x : A) → key (f x) ≡ key x) (xs : List A) (k : ℕ)
    → map key (on_numbered key f xs k) ≡ map key xs
keys_kept key f same = map_kept key f key same

-- a write by place that h can't see
pub map_kept_at : {A B : Type 0} (f : A → A) (h : A → B) (same : (x : A) → h (f x) ≡ h x) (xs : List A) (p : ℕ)
    → map h (on_place f xs p) ≡ map h xs
map_kept_at f h same [] p = refl
map_kept_at f h same (x ∷ xs) zero = ap (λ y. y ∷ map h xs) (same x)
map_kept_at f h same (x ∷ xs) (suc p) = ap (λ ys. h x ∷ ys) (map_kept_at f h same xs p)

-- a write by number keeps the count
pub length_kept : {A : Type 0} (key : A → ℕ) (f : A → A) (xs : List A) (k : ℕ) → length (on_numbered key f xs k) ≡ length xs
length_kept {A} key f xs k = same_length {A = A} {B = ℕ} (λ x. 0) (on_numbered key f xs k) xs (map_kept key f (λ x. 0) (λ x. refl) xs k)

-- a write by place keeps the count
pub length_kept_at : {A : Type 0} (f : A → A) (xs : List A) (p : ℕ) → length (on_place f xs p) ≡ length xs
length_kept_at {A} f xs p = same_length {A = A} {B = ℕ} (λ x. 0) (on_place f xs p) xs (map_kept_at f (λ x. 0) (λ x. refl) xs p)

-- a fact of each element holds after a write that keeps it
pub all_on_numbered : {A : Type 0} (P : A → Type 0) (key : A → ℕ) (f : A → A) (xs : List A) (k : ℕ)
    → ((x : A) → numbered key xs k ≡ Some x → P x → P (f x)) → All P xs → All P (on_numbered key f xs k)
all_on_numbered P key f [] k h all = All-nil P
all_on_numbered P key f (x ∷ xs) k h all =
    grind (arith, nat_tests, All-cons P, All-head P x xs all, All-tail P x xs all, h, all_on_numbered P key f xs k)

-- the same after a write by place
pub all_on_place : {A : Type 0} (P : A → Type 0) (f : A → A) (xs : List A) (p : ℕ)
    → ((x : A) → slice_get xs p ≡ Some x → P x → P (f x)) → All P xs → All P (on_place f xs p)
all_on_place P f [] p h all = All-nil P
all_on_place P f (x ∷ xs) zero h all = All-cons P (f x) xs (h x refl (All-head P x xs all)) (All-tail P x xs all)
all_on_place P f (x ∷ xs) (suc p) h all =
    All-cons P x (on_place f xs p) (All-head P x xs all) (all_on_place P f xs p h (All-tail P x xs all))

-- a test of some element of a mapped list
pub list_any_map : {A : Type 0} (key : A → ℕ) (test : ℕ → Bool) (xs : List A)
    → list_any test (map key xs) ≡ list_any (λ x. test (key x)) xs
list_any_map key test [] = refl
list_any_map key test (x ∷ xs) = ap (λ b. test (key x) || b) (list_any_map key test xs)

-- the place that a look-up finds
pub found_place : {A : Type 0} (key : A → ℕ) (xs : List A) (k : ℕ) (d : A) (o : Option ℕ)
    → o ≡ place_of (map key xs) k → IfSome o (λ p. (p < length xs) × (key (get_or xs p d) ≡ k))
found_place key xs k d None h = tt
found_place key xs k d (Some p) h =
    let place = place_is key xs k p (sym h) in
    (place.inside, sym (eqb-true k (key (get_or xs p d)) (place.here d)))

-- a write at the place of a number, as a write by number
pub record IsPut {A : Type 0} (key : A → ℕ) (f : A → A) (xs : List A) (k p : ℕ) (old new : A) : Type 0 where
  pub found : numbered key xs k ≡ Some old
  pub put : set xs p new ≡ on_numbered key f xs k
  pub keys : map key xs ≡ map key (set xs p new)

-- a write at the place of a number
pub written_here : {A : Type 0} (key : A → ℕ) (f : A → A) (xs : List A) (k p : ℕ) (old new : A)
    → IsPlace key xs k p → old ≡ get_or xs p old → new ≡ f old → set xs p new ≡ on_numbered key f xs k
written_here key f xs k p old new place read made =
    ap (λ x. set xs p x) (made ∙ ap f read) ∙ sym (on_numbered_here key f xs k p old place)

-- a write at the place that was found for a number
pub put_there : {A : Type 0} (key : A → ℕ) (f : A → A) (same : (x : A) → key (f x) ≡ key x) (xs : List A) (k p : ℕ)
    (old new : A)
    → place_of (map key xs) k ≡ Some p → old ≡ get_or xs p old → new ≡ f old → IsPut key f xs k p old new
put_there key f same xs k p old new at read made =
    let place : IsPlace key xs k p = place_is key xs k p at in
    let put = written_here key f xs k p old new place read made in
    record { found = found_here key xs k p old place read; put = put; keys = sym (ap (map key) put ∙ keys_kept key f same xs k) }
