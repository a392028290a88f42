-- Tests of the places that a link reads, by flags that tell them.
use Rattle.std.proofs.Common.{◌≡◌, ℕ, zero, suc, ◌+◌, ◌<◌, ◌≤◌, Bool, false, ◌||◌, List, [], ◌∷◌, ◌++◌, All, length}
use Rattle.std.proofs.Common.{Option, Some, None, IfSome, option_to_list, take, refl, ap, ◌∙◌, arith}
use Rattle.std.specs.List.{list_any, slice_get}
use Rattle.std.specs.Option.{option_map_or}
use Rattle.std.proofs.lemmas.List.Elements.{All-head, All-tail, All-nil, All-cons, All-append}
use Rattle.std.proofs.lemmas.List.Folds.{list_any-append}
use Rattle.transyt_net.specs.Parts.{Network}
use Rattle.transyt_track.specs.Own.{PlacesValue, IsRead, read_places}

-- or
pub or_false : (x : Bool) → (x || false) ≡ x
or_false x = grind arith

pub or_last : (x y z : Bool) → (x || y || z) ≡ (z || x || y)
or_last x y z = grind arith

-- tests that agree on the numbers below a count agree on a list that has no others
pub any_same : (f g : ℕ → Bool) (count : ℕ) → ((m : ℕ) → m < count → f m ≡ g m) → (js : List ℕ)
    → All (λ j. j < count) js → list_any f js ≡ list_any g js
any_same f g count same [] all = refl
any_same f g count same (j ∷ js) all =
    ap (λ b. b || list_any f js) (same j (All-head (λ k. k < count) j js all))
    ∙ ap (λ b. g j || b) (any_same f g count same js (All-tail (λ k. k < count) j js all))

-- a list with at most one element after the first `count`
pub whole : (read : List ℕ) (count : ℕ) → length read ≤ count + 1
    → read ≡ take count read ++ option_to_list (slice_get read count)
whole [] zero most = refl
whole [] (suc count) most = refl
whole (x ∷ []) zero most = refl
whole (x ∷ y ∷ ys) zero most = absurd (omega arith)
whole (x ∷ xs) (suc count) most = ap (λ ys. x ∷ ys) (whole xs count (omega arith))

-- tests and facts of all that a link reads, by those of its feeders and of the link to which it gives way
any_one : (f : ℕ → Bool) (rule : Option ℕ) → list_any f (option_to_list rule) ≡ option_map_or f rule false
any_one f None = refl
any_one f (Some place) = or_false (f place)

pub any_read : (f : ℕ → Bool) (places : PlacesValue)
    → list_any f (read_places places) ≡ (list_any f places.feeders || option_map_or f places.rule false)
any_read f places =
    list_any-append f places.feeders (option_to_list places.rule)
    ∙ ap (λ x. list_any f places.feeders || x) (any_one f places.rule)

all_one : (P : ℕ → Type 0) (rule : Option ℕ) → IfSome rule P → All P (option_to_list rule)
all_one P None is = All-nil P
all_one P (Some place) is = All-cons P place [] is (All-nil P)

pub all_read : {a b : Network} {l : ℕ} {places : PlacesValue} → IsRead a b l places
    → All (λ j. j < length b.links) (read_places places)
all_read {a} {b} {l} {places} is =
    let P = λ (j : ℕ). j < length b.links in
    All-append P places.feeders (option_to_list places.rule) is.feeders (all_one P places.rule is.rule)
