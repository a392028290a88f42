-- Laws of what passes a test among what another test picks.
use Rattle.std.proofs.Common.{◌≡◌, Bool, true, List, [], ◌∷◌, All, map, subst, arith, inl, inr}
use Rattle.std.specs.List.{filter}
use Rattle.std.proofs.lemmas.Bool.{cases_Bool}
use Rattle.std.proofs.lemmas.List.{get_or-map, length-map}
use Rattle.std.proofs.lemmas.List.Elements.{All-head, All-tail, All-nil, All-cons, All-filter, All-map, filter_passes}

-- a test that all picked items pass, item by item
pub picked_each : {A : Type 0} (P : A → Type 0) (pick : A → Bool) (xs : List A) → All P (filter pick xs)
    → All (λ x. pick x ≡ true → P x) xs
picked_each P pick [] h = All-nil (λ x. pick x ≡ true → P x)
picked_each {A} P pick (x ∷ xs) h =
    let Q : A → Type 0 = λ x. pick x ≡ true → P x in
    elim (cases_Bool (pick x)) [
      | inl picked ↦
          let here = rw picked at h in
          All-cons Q x xs (λ p. All-head P x (filter pick xs) here) (picked_each P pick xs (All-tail P x (filter pick xs) here))
      | inr left ↦ All-cons Q x xs (λ p. absurd (cc (p, left))) (picked_each P pick xs (rw left at h))
    ]

-- and the other way round
pub each_picked : {A : Type 0} (P : A → Type 0) (pick : A → Bool) (xs : List A) → All (λ x. pick x ≡ true → P x) xs
    → All P (filter pick xs)
each_picked P pick xs h = λ i d below.
    All-filter pick (λ x. pick x ≡ true → P x) xs h i d below (filter_passes pick xs i d below)

-- the same of a function of the picked items
pub all_mapped : {A B : Type 0} (P : B → Type 0) (f : A → B) (pick : A → Bool) (xs : List A)
    → All (λ x. pick x ≡ true → P (f x)) xs → All P (map f (filter pick xs))
all_mapped P f pick xs h = All-map P f (filter pick xs) (each_picked (λ x. P (f x)) pick xs h)

-- and the other way round
pub mapped_all : {A B : Type 0} (P : B → Type 0) (f : A → B) (pick : A → Bool) (xs : List A)
    → All P (map f (filter pick xs)) → All (λ x. pick x ≡ true → P (f x)) xs
mapped_all P f pick xs h =
    picked_each (λ x. P (f x)) pick xs (
    λ i d below. subst P (get_or-map f (filter pick xs) i d (f d) below)
    (h i (f d) (omega (arith, length-map (filter pick xs) f)))
    )
