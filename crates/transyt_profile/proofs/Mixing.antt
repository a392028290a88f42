-- Laws of the dispersion: the mix of one step, the smoothed profile, and where its values stand.
use Rattle.std.proofs.Common.{◌≡◌, ◌≢◌, ℕ, zero, suc, ◌+◌, ◌-◌, ◌*◌, ◌/◌, ◌%◌, ◌<◌, ◌≤◌, List, length, get_or, set}
use Rattle.std.proofs.Common.{replicate, sum, refl, ap, sym, ◌∙◌, arith, get_or-set_same, get_or-set_other, below_more}
use Rattle.std.specs.List.{All, range_with_len}
use Rattle.std.proofs.lemmas.List.{length-replicate, get_or-replicate}
use Rattle.std.proofs.lemmas.List.Elements.{All-map}
use Rattle.std.proofs.lemmas.List.Folds.{sum_by-replicate}
use Rattle.std.proofs.lemmas.List.Sums.{sum_by-le, get_or-le-sum_by}
use Rattle.std.proofs.lemmas.List.FromFn.{fill_by_all}
use Rattle.std.proofs.Math.Nat.{mod-lt, mod-eq_of_lt, mod-add-mod, add-mod_left, mul-div_cancel_left, mul-le-mul_left}
use Rattle.std.proofs.Math.Nat.{div-le_of_le-mul}
use Rattle.transyt_cycle.specs.Cycle.{minus_mod}
use Rattle.transyt_cycle.proofs.CycleLaws.{minus_mod-lt, minus_mod-add, turned_apart}
use Rattle.transyt_profile.specs.Platoon.{mixed, smoothed, dispersed_at, dispersed}
use Rattle.transyt_profile.specs.Passing.{Placed}

-- a mean of two numbers below a bound is below it
pub mixed_below : (w x z b : ℕ) → x < b → z < b → mixed w x z < b
mixed_below w x z b x_below z_below =
    let within : z ≤ b - 1 = omega arith in
    let mean : mixed w x z ≤ b - 1 = div-le_of_le-mul (100 + w) (omega (arith, mul-le-mul_left w within)) in omega arith

-- a mean of a number and itself is the number
pub mixed_same : (w v : ℕ) → mixed w v v ≡ v
mixed_same w v = ap (λ k. k / (100 + w)) (omega arith) ∙ mul-div_cancel_left v {n = 100 + w} (omega arith)

-- the mean of numbers below a bound is below it
pub mean_below : (xs : List ℕ) (b : ℕ) → 0 < length xs → All (λ v. v < b) xs → sum xs / length xs < b
mean_below xs b some fit =
    let first : get_or xs 0 0 < b = fit 0 0 some in
    let mean : sum xs / length xs ≤ b - 1 =
    div-le_of_le-mul (length xs) (sum_by-le (λ x. x) (b - 1) xs (λ k d h. omega (arith, fit k d h))) in omega arith

-- the weight of a dispersion in its range
pub weight_within : (k t : ℕ) → k ≤ 100 → t ≤ 960 → k * t ≤ 96000
weight_within k t percent time = omega (arith, mul-le-mul_left k time)

-- a value of a profile is within its sum
pub value_within : (xs : List ℕ) (i : ℕ) → i < length xs → get_or xs i 0 ≤ sum xs
value_within xs i below = get_or-le-sum_by (λ x. x) xs i 0 below

-- the smoothed profile begins with the mean
pub smoothed_none : (xs : List ℕ) (w : ℕ) → smoothed xs w 0 ≡ sum xs / length xs
unfolding smoothed
smoothed_none xs w = refl

-- after step i of the first turn the smoothed profile mixes that step with its value before
pub first_next : (xs : List ℕ) (w i : ℕ) → i < length xs
    → smoothed xs w (i + 1) ≡ mixed w (get_or xs i 0) (smoothed xs w i)
unfolding smoothed
first_next xs w i below =
    let one : i + 1 ≡ suc i = omega arith in let place : i % length xs ≡ i = mod-eq_of_lt below in rw (one, place)

-- so it does in the second turn
pub second_next : (xs : List ℕ) (w i : ℕ) → i < length xs
    → smoothed xs w (length xs + 1 + i) ≡ mixed w (get_or xs i 0) (smoothed xs w (length xs + i))
unfolding smoothed
second_next xs w i below =
    let one : length xs + 1 + i ≡ suc (length xs + i) = omega arith in
    let place : (length xs + i) % length xs ≡ i = add-mod_left (length xs) i ∙ mod-eq_of_lt below in rw (one, place)

-- one step more of the first turn: its mix is the smoothed profile after it
pub step_first : (xs : List ℕ) (k t w i z r : ℕ) → w ≡ k * t → i < length xs → z ≡ smoothed xs (k * t) i
    → r ≡ mixed w (get_or xs i 0) z → r ≡ smoothed xs (k * t) (i + 1)
step_first xs k t w i z r weight below before mix =
    mix ∙ ap (λ v. mixed v (get_or xs i 0) z) weight ∙ ap (mixed (k * t) (get_or xs i 0)) before
    ∙ sym (first_next xs (k * t) i below)

-- values below a bound stay below it
smoothed_below : (xs : List ℕ) (w j b : ℕ) → 0 < length xs → All (λ v. v < b) xs → smoothed xs w j < b
unfolding smoothed
smoothed_below xs w zero b some fit = mean_below xs b some fit
smoothed_below xs w (suc j) b some fit =
    mixed_below w (get_or xs (j % length xs) 0) (smoothed xs w j) b (fit (j % length xs) 0 (mod-lt j some))
    (smoothed_below xs w j b some fit)

-- so no value that arrives is past the bound of the profile that sets out
pub dispersed_small : (xs : List ℕ) (t k b : ℕ) → 0 < length xs → All (λ v. v < b) xs
    → All (λ v. v < b) (dispersed xs t k)
dispersed_small xs t k b some fit =
    All-map (λ v. v < b) (dispersed_at xs t k) (range_with_len 0 (length xs))
    (λ i d h. smoothed_below xs (k * t) _ b some fit)

-- a profile that is the same at each step stays so
smoothed_uniform : (n v w j : ℕ) → 0 < n → smoothed (replicate n v) w j ≡ v
unfolding smoothed
smoothed_uniform n v w zero some =
    let whole = sum_by-replicate (λ x. x) n v in rw (whole, length-replicate) (mul-div_cancel_left v some)
smoothed_uniform n v w (suc j) some =
    let before = smoothed_uniform n v w j some in
    let here = get_or-replicate n (j % n) v 0 (mod-lt j some) in
    rw (length-replicate, before, here) (mixed_same w v)

-- so a profile that is the same at each step arrives as it set out
pub dispersed_uniform : (xs : List ℕ) (t k v : ℕ) → 0 < length xs → xs ≡ replicate (length xs) v → dispersed xs t k ≡ xs
dispersed_uniform xs t k v some same =
    sym (fill_by_all (dispersed_at xs t k) xs (length xs) 0 refl
    (λ i below.
    let j : ℕ = length xs + 1 + minus_mod (length xs) i t in
    let here : smoothed xs (k * t) j ≡ v =
    ap (λ ys. smoothed ys (k * t) j) same ∙ smoothed_uniform (length xs) v (k * t) j some in
    let there : get_or xs i 0 ≡ v = ap (λ ys. get_or ys i 0) same ∙ get_or-replicate (length xs) i v 0 below in
    there ∙ sym here))

-- with the whole turn placed, the profile is the definition's
pub placed_all : (xs ys : List ℕ) (t k : ℕ) → 0 < length xs
    → length ys ≡ length xs → Placed xs ys t k (length xs) → ys ≡ dispersed xs t k
placed_all xs ys t k some same placed =
    fill_by_all (dispersed_at xs t k) ys (length xs) 0 same
    (λ i below.
    let m : ℕ = minus_mod (length xs) i t in
    let place : (m + t) % length xs ≡ i = minus_mod-add (length xs) i t some ∙ mod-eq_of_lt below in
    ap (λ n. get_or ys n 0) (sym place) ∙ placed m (minus_mod-lt (length xs) i t some))

-- the same counted through both turns: value j stands at step j - 1 + t, round the cycle
pub placed_by_step : (xs ys : List ℕ) (t k j : ℕ) → Placed xs ys t k (length xs)
    → length xs < j → j ≤ 2 * length xs → get_or ys ((j - 1 + t) % length xs) 0 ≡ smoothed xs (k * t) j
placed_by_step xs ys t k j placed low high =
    let m : ℕ = j - 1 - length xs in
    let turn : j - 1 + t ≡ length xs + (m + t) = omega arith in
    let same : length xs + 1 + m ≡ j = omega arith in
    ap (λ n. get_or ys (n % length xs) 0) turn ∙ ap (λ n. get_or ys n 0) (add-mod_left (length xs) (m + t))
    ∙ placed m (omega arith) ∙ ap (smoothed xs (k * t)) same

-- one step more of the second turn: its mix, the place after its own, and its value there
pub step_placed : (xs ys : List ℕ) (t k i p z r next : ℕ) → i < length xs → length ys ≡ length xs
    → z ≡ smoothed xs (k * t) (length xs + i) → p ≡ (i + t) % length xs → Placed xs ys t k i
    → r ≡ mixed (k * t) (get_or xs i 0) z → next ≡ (p + 1) % length xs
    → (r ≡ smoothed xs (k * t) (length xs + (i + 1))) × (next ≡ (i + 1 + t) % length xs)
    × Placed xs (set ys p r) t k (i + 1)
step_placed xs ys t k i p z r next below same before place placed mix after =
    let here : r ≡ smoothed xs (k * t) (length xs + 1 + i) =
    mix ∙ ap (mixed (k * t) (get_or xs i 0)) before ∙ sym (second_next xs (k * t) i below) in
    let within : p < length ys = omega (arith, mod-lt (i + t) {m = length xs} (omega arith)) in
    let value : length xs + 1 + i ≡ length xs + (i + 1) = omega arith in
    let turn : i + t + 1 ≡ i + 1 + t = omega arith in (
      here ∙ ap (smoothed xs (k * t)) value,
      after ∙ ap (λ n. (n + 1) % length xs) place ∙ mod-add-mod (i + t) (length xs) 1
          ∙ ap (λ n. n % length xs) turn,
      below_more _ _
          (λ m passed.
          let apart : (m + t) % length xs ≢ p = λ taken.
          let one : m ≡ i = turned_apart (length xs) m i t (omega arith) below (taken ∙ place) in omega arith in
          rw get_or-set_other (placed m passed))
          (rw (← place, get_or-set_same) here),
    )
