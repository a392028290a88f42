-- The list of all greens of stages has just those that fill the cycle.
use Rattle.std.proofs.Common.{◌≡◌, ℕ, zero, suc, ◌+◌, ◌-◌, ◌<◌, ◌≤◌, List, [], ◌∷◌, All, map, length, sum, get_or}
use Rattle.std.proofs.Common.{sym, ◌∙◌, ap, refl, subst, arith}
use Rattle.std.specs.List.{range_with_len, flat_map, Contains}
use Rattle.std.proofs.lemmas.List.Sums.{sum_by-cons}
use Rattle.std.proofs.lemmas.List.Elements.{All-nil, All-cons, All-head, All-tail, All-append, All-map, Contains-append_left, Contains-append_right}
use Rattle.std.proofs.lemmas.List.{length-map, get_or-map}
use Rattle.std.proofs.lemmas.List.FromFn.{length-range_with_len, get_or-range_with_len}
use Rattle.transyt_parts.specs.declared.node.Stage.{Stage}
use Rattle.transyt_parts.specs.Plan.{stage_of}
use Rattle.transyt_equisat.specs.Peaks.{Fits, intergreens}
use Rattle.transyt_equisat.specs.Balance.{all_greens}

-- all that stand in the joined lists
pub all_joined : {A B : Type 0} (P : B → Type 0) (f : A → List B) (xs : List A) → All (λ x. All P (f x)) xs → All P (flat_map f xs)
all_joined P f [] h = All-nil P
all_joined {A} P f (x ∷ xs) h =
    let Q : A → Type 0 = λ x. All P (f x) in
    All-append P (f x) (flat_map f xs) (All-head Q x xs h) (all_joined P f xs (All-tail Q x xs h))

-- an item of one list is an item of the joined lists
pub joined : {A B : Type 0} (f : A → List B) (xs : List A) (k : ℕ) (d : A) (y : B) → k < length xs → Contains (f (get_or xs k d)) y
    → Contains (flat_map f xs) y
joined f [] k d y inside h = absurd (omega arith)
joined f (x ∷ xs) zero d y inside h = Contains-append_left (f x) (flat_map f xs) y h
joined f (x ∷ xs) (suc k) d y inside h = Contains-append_right (f x) (flat_map f xs) y (joined f xs k d y (omega arith) h)

-- greens with one more in front
pub fits_cons : (s : Stage) (ss : List Stage) (left e : ℕ) (es : List ℕ) → s.least ≤ e → e + s.intergreen ≤ left
    → Fits (left - (e + s.intergreen)) ss es → Fits left (s ∷ ss) (e ∷ es)
fits_cons s ss left e es least room rest = record {
  count = omega (arith, rest.count);
  least = each;
  fills = omega (arith, sum_by-cons (λ n. n) e es, sum_by-cons (λ (s : Stage). s.intergreen) s ss, rest.fills);
}
  where
    each : (k : ℕ) → k < length (s ∷ ss) → (stage_of (s ∷ ss) k).least ≤ get_or (e ∷ es) k 0
    each zero below = least
    each (suc k) below = rest.least k (omega arith)

-- each list of greens in it fits
pub all_fit : (ss : List Stage) (left : ℕ) → All (λ es. Fits left ss es) (all_greens ss left)
all_fit [] zero = All-cons (λ (es : List ℕ). Fits 0 [] es) [] [] (record { count = refl; least = λ k below. absurd (omega arith); fills = refl })
    (All-nil (λ (es : List ℕ). Fits 0 [] es))
all_fit [] (suc left) = All-nil (λ (es : List ℕ). Fits (suc left) [] es)
all_fit (s ∷ ss) left =
    all_joined (λ es. Fits left (s ∷ ss) es) (λ e. map (λ es. e ∷ es) (all_greens ss (left - (e + s.intergreen))))
    (range_with_len s.least (left + 1 - (s.least + s.intergreen))) (
    λ k d below.
    let n : ℕ = left + 1 - (s.least + s.intergreen) in
    let inside : k < n = omega (arith, length-range_with_len s.least n) in
    let e : ℕ = get_or (range_with_len s.least n) k d in
    let at : e ≡ s.least + k = get_or-range_with_len s.least n k d inside in
    let tails = all_greens ss (left - (e + s.intergreen)) in
    All-map (λ es. Fits left (s ∷ ss) es) (λ es. e ∷ es) tails (
    λ j end below. fits_cons s ss left e (get_or tails j end) (omega arith) (omega arith)
    (all_fit ss (left - (e + s.intergreen)) j end below)
    )
    )

-- the items that a part of a list gives
pub Contains_map : {A B : Type 0} (f : A → B) (xs : List A) (x : A) → Contains xs x → Contains (map f xs) (f x)
Contains_map f xs x (k, inside, same) = (k, omega (arith, length-map xs f), get_or-map f xs k x (f x) inside ∙ ap f same)

-- and greens that fit stand in it
pub fits_listed : (ss : List Stage) (left : ℕ) (es : List ℕ) → Fits left ss es → Contains (all_greens ss left) es
fits_listed [] zero [] fits = (0, omega arith, refl)
fits_listed [] (suc left) [] fits = absurd (let fills = fits.fills in omega arith)
fits_listed [] left (e ∷ es) fits = absurd (let count = fits.count in omega arith)
fits_listed (s ∷ ss) left [] fits = absurd (let count = fits.count in omega arith)
fits_listed (s ∷ ss) left (e ∷ es) fits =
    let n : ℕ = left + 1 - (s.least + s.intergreen) in
    let low : s.least ≤ e = fits.least 0 (omega arith) in
    let fills : (e + sum es) + (s.intergreen + intergreens ss) ≡ left =
    omega (arith, fits.fills, sum_by-cons (λ n. n) e es, sum_by-cons (λ (s : Stage). s.intergreen) s ss) in
    let k : ℕ = e - s.least in
    let inside : k < n = omega arith in
    let at : get_or (range_with_len s.least n) k 0 ≡ e = get_or-range_with_len s.least n k 0 inside ∙ omega arith in
    let rest : Fits (left - (e + s.intergreen)) ss es = record {
      count = omega (arith, fits.count);
      least = λ j below. fits.least (suc j) (omega arith);
      fills = omega arith;
    } in
    joined (λ e. map (λ es. e ∷ es) (all_greens ss (left - (e + s.intergreen)))) (range_with_len s.least n) k 0 (e ∷ es)
    (omega (arith, length-range_with_len s.least n))
    (subst (λ (f : ℕ). Contains (map (λ es. f ∷ es) (all_greens ss (left - (f + s.intergreen)))) (e ∷ es)) (sym at)
    (Contains_map (λ es. e ∷ es) (all_greens ss (left - (e + s.intergreen))) es
    (fits_listed ss (left - (e + s.intergreen)) es rest)))
