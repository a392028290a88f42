-- The sum of profiles, step by step.
use Rattle.std.proofs.Common.{◌≡◌, ℕ, suc, ◌+◌, ◌-◌, ◌*◌, ◌<◌, ◌≤◌, List, [], ◌∷◌, length, get_or, fold, sum_by}
use Rattle.std.proofs.Common.{ap, ◌∙◌, sym, arith}
use Rattle.std.specs.List.{All}
use Rattle.std.proofs.lemmas.List.{ext_get_or, get_or_default}
use Rattle.std.proofs.lemmas.List.Sums.{sum_by-cons}
use Rattle.std.proofs.lemmas.List.FromFn.{get_or-map-range_with_len, length-map-range_with_len}
use Rattle.transyt_profile.specs.Profile.{added, added_at, folded}

-- a sum has as many steps as its first profile
pub length-added : (xs ys : List ℕ) → length (added xs ys) ≡ length xs
length-added xs ys = length-map-range_with_len (added_at xs ys) 0 (length xs)

-- and at each the sum of two values
pub get_or-added : (xs ys : List ℕ) (i : ℕ) → i < length xs → get_or (added xs ys) i 0 ≡ get_or xs i 0 + get_or ys i 0
get_or-added xs ys i inside = get_or-map-range_with_len (added_at xs ys) 0 (length xs) i i 0 inside (omega arith)

-- two turns folded have as many steps as the cycle
pub length-folded : (n : ℕ) (turns : List ℕ) → length (folded n turns) ≡ n
length-folded n turns = length-map-range_with_len _ 0 n

-- and at each the sum of both values
pub get_or-folded : (n : ℕ) (turns : List ℕ) (i : ℕ) → i < n
    → get_or (folded n turns) i 0 ≡ get_or turns i 0 + get_or turns (n + i) 0
get_or-folded n turns i inside = get_or-map-range_with_len _ 0 n i i 0 inside (omega arith)

-- a limit on what stood goes up by the limit on what is added
pub added_grows : (xs ys : List ℕ) (limit more : ℕ) → length ys ≡ length xs → All (λ v. v < limit) xs
    → All (λ v. v < more) ys → All (λ v. v < limit + more) (added xs ys)
added_grows xs ys limit more same within small k d h =
    let inside : k < length xs = omega (arith, h, length-added xs ys) in
    omega (
      arith,
      get_or_default (added xs ys) k d 0 h,
      get_or-added xs ys k inside,
      within k 0 inside,
      small k 0 (omega (arith, inside, same)),
    )

-- each value of two turns is within that of their fold
pub folded_first : (n : ℕ) (turns : List ℕ) (limit k : ℕ) → All (λ v. v < limit) (folded n turns) → k < n
    → get_or turns k 0 + get_or turns (n + k) 0 < limit
folded_first n turns limit k within below =
    omega (arith, get_or-folded n turns k below, within k 0 (omega (arith, below, length-folded n turns)))

-- so is that of any place
pub folded_each : (n : ℕ) (turns : List ℕ) (limit : ℕ) → All (λ v. v < limit) (folded n turns) → length turns ≡ 2 * n
    → All (λ v. v < limit) turns
folded_each n turns limit within same k d h =
    let at : n ≤ k → get_or turns (n + (k - n)) 0 ≡ get_or turns k 0 = λ after.
    ap (λ m. get_or turns m 0) (omega (arith, after)) in
    let first = folded_first n turns limit k within in
    let second = folded_first n turns limit (k - n) within in
    grind (arith, get_or_default turns k d 0 h, first, second, at)

-- the profile whose steps are those of a profile and of others, all added, is their sum
pub is_added_each : {X : Type 0} (f : X → List ℕ) (xs : List X) (out new : List ℕ) → length new ≡ length out
    → ((k : ℕ) → k < length out → get_or new k 0 ≡ get_or out k 0 + sum_by (λ x. get_or (f x) k 0) xs)
    → new ≡ fold (λ come x. added come (f x)) out xs
is_added_each f [] out new long sums =
    ext_get_or 0 new out long (λ k h. omega (arith, sums k (omega (arith, h, long))))
is_added_each f (x ∷ xs) out new long sums =
    let one : length (added out (f x)) ≡ length out = length-added out (f x) in
    is_added_each f xs (added out (f x)) new (long ∙ sym one)
    (λ k h.
    omega (
      arith,
      sums k (omega (arith, h, one)),
      sum_by-cons (λ y. get_or (f y) k 0) x xs,
      get_or-added out (f x) k (omega (arith, h, one)),
    ))

-- and a limit on the first goes up by the limits of the others
pub each_grows : {X : Type 0} (f : X → List ℕ) (xs : List X) (out : List ℕ) (limit more : ℕ)
    → All (λ x. length (f x) ≡ length out) xs → All (λ x. All (λ v. v < more) (f x)) xs → All (λ v. v < limit) out
    → All (λ v. v < limit + length xs * more) (fold (λ come x. added come (f x)) out xs)
each_grows f [] out limit more same small within k d h = omega (arith, within k d h)
each_grows f (x ∷ xs) out limit more same small within k d h =
    let one : length (added out (f x)) ≡ length out = length-added out (f x) in
    omega (
      arith,
      each_grows f xs (added out (f x)) (limit + more) more
          (λ i e below. same (suc i) e (omega (arith, below)) ∙ sym one)
          (λ i e below. small (suc i) e (omega (arith, below)))
          (added_grows out (f x) limit more (same 0 x (omega arith)) within (small 0 x (omega arith))) k d h,
    )
