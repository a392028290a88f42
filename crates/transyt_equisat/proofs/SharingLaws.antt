-- Laws of sharing steps out one by one: each goes to the stage with the greatest degree.
use Rattle.std.proofs.Common.{◌≡◌, ℕ, suc, ◌+◌, ◌*◌, ◌<◌, ◌≤◌, true, false, List, [], ◌∷◌, length, map, All, arith}
use Rattle.std.proofs.Common.{inl, inr, get_or, set, subst, sum, ltb-true}
use Rattle.std.proofs.Math.Nat.{mul-pos, lt_of_mul-lt-mul_right}
use Rattle.std.proofs.lemmas.Bool.{cases_Bool}
use Rattle.std.proofs.lemmas.Grind.{get_or-set_at}
use Rattle.std.proofs.lemmas.List.{get_or-set_other, length-set}
use Rattle.std.proofs.lemmas.List.Sums.{sum_by-cons, sum_by-set}
use Rattle.std.proofs.lemmas.List.Elements.{All-map}
use Rattle.transyt_parts.specs.declared.node.Stage.{Stage}
use Rattle.transyt_parts.specs.Plan.{no_stage}
use Rattle.transyt_equisat.specs.declared.fraction.Fraction.{Fraction}
use Rattle.transyt_equisat.specs.Degrees.{is_above}
use Rattle.transyt_equisat.specs.Sharing.{degree_of, no_demand, AskedValue, IsAsked, AreEnough, degree_at, IsUnder}
use Rattle.transyt_equisat.specs.Sharing.{IsBest, IsLeastPeak}
use Rattle.transyt_equisat.specs.Peaks.{Fits}
use Rattle.transyt_equisat.proofs.FractionLaws.{at_most, not_above-trans, degree_falls}

-- greens that fill the cycle are enough
pub enough_of : (a : AskedValue) (greens : List ℕ) → Fits a.steps a.stages greens → AreEnough a greens
enough_of a greens fits = record { count = fits.count; least = fits.least }

-- the least greens are short
pub least_short : (a : AskedValue) → IsAsked a → All (λ e. e ≤ 120) (map (λ (s : Stage). s.least) a.stages)
least_short a is =
    All-map (λ e. e ≤ 120) (λ (s : Stage). s.least) a.stages
    (λ k d below. omega (arith, (is.stages k d below).least.1, is.short))

-- where a stage gets more steps, none has fewer
pub more_least : (greens : List ℕ) (p x k : ℕ) → p < length greens
    → get_or greens k 0 ≤ get_or (set greens p (get_or greens p 0 + x)) k 0
more_least greens p x k inside = grind (arith, get_or-set_at greens p k (get_or greens p 0 + x) 0, get_or-set_other greens p k (get_or greens p 0 + x) 0)

-- where no number is greater than the other list's at its place, and the one put at a place isn't either
set_least : (xs ys : List ℕ) (p y k : ℕ) → p < length xs → y ≤ get_or ys p 0 → get_or xs k 0 ≤ get_or ys k 0
    → get_or (set xs p y) k 0 ≤ get_or ys k 0
set_least xs ys p y k inside here there = grind (arith, get_or-set_at xs p k y 0, get_or-set_other xs p k y 0)

-- where no number is greater than the other list's at its place, the sum isn't either
pub sum_pointwise : (xs ys : List ℕ) → length xs ≡ length ys
    → ((k : ℕ) → k < length xs → get_or xs k 0 ≤ get_or ys k 0) → sum xs ≤ sum ys
sum_pointwise [] ys same less = omega arith
sum_pointwise (x ∷ xs) [] same less = absurd (omega arith)
sum_pointwise (x ∷ xs) (y ∷ ys) same less =
    let rest = sum_pointwise xs ys (omega arith) (λ k below. less (suc k) (omega arith)) in
    omega (arith, sum_by-cons (λ n. n) x xs, sum_by-cons (λ n. n) y ys, less 0 (omega arith), rest)

module _ (a : AskedValue) (greens : List ℕ) (p : ℕ) (is : IsAsked a) (enough : AreEnough a greens) (inside : p < length a.stages)
  where
    -- the base of a degree is positive
    pub degree_base : 0 < (degree_at a greens p).base
    degree_base =
        mul-pos {n = get_or greens p 0} (is.live p no_demand (omega (arith, is.count)))
        (omega (arith, (is.stages p no_stage inside).least.0, enough.least p inside))

    -- with more steps for a stage they stay enough
    pub enough_more : (x : ℕ) → AreEnough a (set greens p (get_or greens p 0 + x))
    enough_more x = record {
      count = omega (arith, length-set greens p (get_or greens p 0 + x), enough.count);
      least = λ k below. omega (arith, enough.least k below, more_least greens p x k (omega (arith, enough.count)));
    }

module _ (a : AskedValue) (greens : List ℕ) (p : ℕ) (is : IsAsked a) where
  -- more steps for a stage raise no degree
  under_more : (x : ℕ) (w : Fraction) → AreEnough a greens → p < length a.stages → IsUnder a greens w
      → IsUnder a (set greens p (get_or greens p 0 + x)) w
  under_more x w enough inside under k below =
      not_above-trans (degree_at a (set greens p (get_or greens p 0 + x)) k) (degree_at a greens k) w
      (degree_base a greens k is enough below)
      (degree_falls a.steps (get_or a.demands k no_demand) (get_or greens k 0) (get_or (set greens p (get_or greens p 0 + x)) k 0)
      (more_least greens p x k (omega (arith, enough.count))))
      (under k below)

  -- where a stage has a degree above w, greens under w give it more steps
  more_there : (es : List ℕ) (w : Fraction) → is_above (degree_at a greens p) w ≡ true → is_above (degree_at a es p) w ≡ false
      → get_or greens p 0 < get_or es p 0
  more_there es w above under =
      lt_of_mul-lt-mul_right (w.top * (get_or a.demands p no_demand).saturation)
      (omega (arith, ltb-true _ _ above, at_most (degree_at a es p) w under))

  -- a step for the stage with the greatest degree: no greens do better
  pub best_more : AreEnough a greens → p < length a.stages → IsUnder a greens (degree_at a greens p) → IsBest a greens
      → IsBest a (set greens p (get_or greens p 0 + 1))
  best_more enough inside most best w es pos fits under =
      let more = under_more 1 w enough inside in
      elim (best w es pos fits under) [
        | inr already ↦ inr (more already)
        | inl few ↦ elim (cases_Bool (is_above (degree_at a greens p) w)) [
          | inr not_so ↦
              inr (more (λ k below. not_above-trans (degree_at a greens k) (degree_at a greens p) w
              (degree_base a greens p is enough inside) (most k below) not_so))
          | inl above ↦
              let there = more_there es w above (under p inside) in
              inl (λ k below. set_least greens es p (get_or greens p 0 + 1) k (omega (arith, enough.count)) (omega arith) (few k below))
        ]
      ]

  -- once the cycle is full the greatest degree is the least peak
  pub peak_is_least : Fits a.steps a.stages greens → IsBest a greens → p < length a.stages
      → IsUnder a greens (degree_at a greens p) → IsLeastPeak a (degree_at a greens p)
  peak_is_least full best inside most = record {
    base = degree_base a greens p is (enough_of a greens full) inside;
    reached = (greens, full, most);
    least = λ w es pos fits under. elim (best w es pos fits under) [
      | inr already ↦ already p inside
      | inl few ↦
          let e : ℕ = get_or es p 0 in
          let count = length-set greens p e in
          let sums = sum_pointwise (set greens p e) es (omega (arith, count, full.count, fits.count))
          (λ k below. set_least greens es p e k (omega (arith, full.count)) (omega arith) (few k (omega (arith, count, full.count)))) in
          let set_sum = sum_by-set (λ n. n) greens p e 0 (omega (arith, full.count)) in
          let same : e ≡ get_or greens p 0 = omega (arith, sums, set_sum, few p inside, full.fills, fits.fills) in
          subst (λ (n : ℕ). is_above (degree_of a.steps (get_or a.demands p no_demand) n) w ≡ false) same (under p inside)
    ];
  }
