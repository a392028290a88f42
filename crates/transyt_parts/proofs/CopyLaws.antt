-- Lists that are made equal place by place.
use Rattle.std.proofs.Common.{◌≡◌, ℕ, suc, ◌+◌, ◌<◌, List, [], ◌∷◌, ◌++◌, map, length, get_or, set, take, refl, sym, ap, ◌∙◌, arith}
use Rattle.std.proofs.lemmas.Bool.Decides.{nat_tests}
use Rattle.std.proofs.lemmas.List.{map-set, set-get_or, get_or-map, length-map, get_or-set_other, get_or_default, take_more}
use Rattle.std.proofs.lemmas.Grind.{get_or-set_at}

-- lists that agree at each place are equal
pub same_lists : {A : Type 0} (xs ys : List A) → length xs ≡ length ys
    → ((k : ℕ) (d : A) → k < length ys → get_or xs k d ≡ get_or ys k d) → xs ≡ ys
same_lists [] [] len at = refl
same_lists [] (y ∷ ys) len at = absurd (omega arith)
same_lists (x ∷ xs) [] len at = absurd (omega arith)
same_lists (x ∷ xs) (y ∷ ys) len at =
    let first : 0 < length (y ∷ ys) = omega arith in
    (λ j. at 0 x first j ∷ same_lists xs ys (omega arith) (λ k d less. at (suc k) d (omega arith)) j)

-- lists of one shape are equally long
pub same_length : {A B : Type 0} (f : A → B) (xs ys : List A) → map f xs ≡ map f ys → length xs ≡ length ys
same_length f xs ys same = sym (length-map xs f) ∙ ap length same ∙ length-map ys f

-- where two lists have one shape, so have their elements
pub same_at : {A B : Type 0} (f : A → B) (xs ys : List A) (i : ℕ) (x y : A) → map f xs ≡ map f ys → i < length ys
    → x ≡ get_or xs i x → y ≡ get_or ys i y → f x ≡ f y
same_at f xs ys i x y same there at_x at_y =
    grind (arith, nat_tests, same_length f xs ys same, get_or-map f xs i x (f x), get_or-map f ys i y (f x))

-- a write of what stands in the other keeps the shape
pub shape_more : {A B : Type 0} (f : A → B) (xs ys : List A) (i : ℕ) (v y : A) → map f xs ≡ map f ys
    → v ≡ y → y ≡ get_or ys i y → map f (set xs i v) ≡ map f ys
shape_more f xs ys i v y same is at =
    map-set f xs i v
    ∙ (λ j. set (same j) i (f (is j)))
    ∙ sym (map-set f ys i y)
    ∙ ap (λ w. map f (set ys i w)) at
    ∙ ap (map f) (set-get_or ys i y)

-- one more place at which they agree
pub agree_more : {A B : Type 0} (f : A → B) (xs ys : List A) (i : ℕ) (v y : A) → map f xs ≡ map f ys → i < length ys
    → ((k : ℕ) (d : A) → k < i → get_or xs k d ≡ get_or ys k d) → v ≡ y → y ≡ get_or ys i y
    → (k : ℕ) (d : A) → k < i + 1 → get_or (set xs i v) k d ≡ get_or ys k d
agree_more f xs ys i v y same there before is at k d less =
    grind (
      arith,
      nat_tests,
      same_length f xs ys same,
      before k d,
      get_or-set_at xs i k v d,
      get_or-set_other xs i k v d,
      get_or_default ys i y d there,
    )

-- a copy of one element more
pub copied_more : {A : Type 0} (xs before after : List A) (i : ℕ) (x y : A) → i < length xs → before ≡ take i xs
    → after ≡ before ++ y ∷ [] → y ≡ x → x ≡ get_or xs i x → after ≡ take (i + 1) xs
copied_more xs before after i x y inside so_far more same at =
    more ∙ (λ j. so_far j ++ (same ∙ at) j ∷ []) ∙ sym (take_more xs i x inside)
