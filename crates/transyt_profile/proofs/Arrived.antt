-- The arrivals of a platoon within two turns round the cycle, while its second turn goes by.
use Rattle.std.proofs.Common.{◌≡◌, ℕ, suc, ◌+◌, ◌-◌, ◌*◌, ◌%◌, ◌^◌, ◌<◌, ◌≤◌, List, [], ◌∷◌, length, get_or, sum_by}
use Rattle.std.proofs.Common.{refl, ap, subst, sym, ◌∙◌, arith, All}
use Rattle.std.proofs.lemmas.List.Sums.{sum_by-cons}
use Rattle.std.proofs.Math.Logic.{⊎_elim}
use Rattle.std.proofs.Math.Nat.{mod-lt, mod-eq_of_lt}
use Rattle.std.proofs.lemmas.Bool.{cases_eq}
use Rattle.std.proofs.lemmas.Bool.Decides.{nat_tests}
use Rattle.std.proofs.lemmas.List.FromFn.{get_or-map-range_with_len}
use Rattle.transyt_cycle.specs.Cycle.{minus_mod}
use Rattle.transyt_cycle.proofs.CycleLaws.{minus_mod-above, minus_mod-under}
use Rattle.transyt_profile.specs.Platoon.{dispersed_at}
use Rattle.transyt_profile.specs.Arriving.{arriving, sent}
use Rattle.transyt_profile.specs.Passing.{HavePassed, arrived, arrived_by, gone_by, steps_of}
use Rattle.transyt_profile.proofs.Turns.{length-sent}
use Rattle.transyt_profile.specs.declared.group.Ready.{Ready}
use Rattle.transyt_profile.specs.declared.passing.Passing.{Passing}
use Rattle.transyt_profile.specs.declared.platoon.Platoon.{Platoon}

-- one step more, which is added where it arrives
pub arrived_more : (g : ℕ → ℕ) (first i place : ℕ) (old new : List ℕ) → place ≡ first
    → get_or new (place + i) 0 ≡ get_or old (place + i) 0 + g i
    → ((j : ℕ) → (j ≡ place + i → ⊥) → get_or new j 0 ≡ get_or old j 0)
    → (j : ℕ) → get_or new j 0 + arrived_by g first i j ≡ get_or old j 0 + arrived_by g first (i + 1) j
arrived_more g first i place old new same here others j =
    ⊎_elim
    (λ (there : j ≡ place + i).
    let step : place + i - first ≡ i = omega (arith, same) in rw there (grind (arith, nat_tests, here, ap g step)))
    (λ (apart : j ≡ place + i → ⊥). grind (arith, nat_tests, others j apart))
    (cases_eq j (place + i))

-- with the whole turn past, both places of a step have the value of the step from which t steps of travel lead to it
arrived_whole : (g : ℕ → ℕ) (n t k : ℕ) → k < n
    → arrived_by g (t % n) n k + arrived_by g (t % n) n (n + k) ≡ g (minus_mod n k t)
arrived_whole g n t k inside =
    let some : 0 < n = omega (arith, inside) in
    let first : t % n < n = mod-lt t some in
    let own : k % n ≡ k = mod-eq_of_lt inside in
    let far : k < t % n → g (n + k - t % n) ≡ g (minus_mod n k t) = λ before.
    ap g (omega (arith, minus_mod-under n k t some (omega (arith, before, own)), own, before, first)) in
    let near : t % n ≤ k → g (k - t % n) ≡ g (minus_mod n k t) = λ after.
    ap g (omega (arith, minus_mod-above n k t some (omega (arith, after, own)), own)) in
    grind (arith, nat_tests, far, near)

-- with the whole turn past, it is the arriving profile
arriving_at : (p : Platoon) (n k : ℕ) → steps_of p ≡ n → k < n
    → get_or (arriving p) k 0 ≡ arrived n k p + arrived n (n + k) p
arriving_at p n k own inside =
    let t : ℕ = p.travel.now.time in
    let xs : List ℕ = sent p in
    let same : length xs ≡ steps_of p = length-sent p in
    let below : k < length xs = omega (arith, same, own, inside) in
    get_or-map-range_with_len (dispersed_at xs t p.travel.now.percent) 0 (length xs) k k 0 below (omega arith)
    ∙ ap (λ m. gone_by p (m + 1 + minus_mod m k t)) same
    ∙ sym (arrived_whole (λ m. gone_by p (steps_of p + 1 + m)) (steps_of p) t k (omega (arith, own, inside)))
    ∙ ap (λ m. arrived m k p + arrived m (m + k) p) own

-- so is it of each of some platoons
pub arriving_each : (n k : ℕ) (ps : List Platoon) → All (λ p. steps_of p ≡ n) ps → k < n
    → sum_by (λ p. get_or (arriving p) k 0) ps ≡ sum_by (arrived n k) ps + sum_by (arrived n (n + k)) ps
arriving_each n k [] same inside = refl
arriving_each n k (p ∷ ps) same inside =
    omega (
      arith,
      sum_by-cons (λ q. get_or (arriving q) k 0) p ps,
      sum_by-cons (arrived n k) p ps,
      sum_by-cons (arrived n (n + k)) p ps,
      arriving_at p n k (same 0 p (omega arith)) inside,
      arriving_each n k ps (λ q d below. same (suc q) d (omega (arith, below))) inside,
    )

-- before the first step nothing has arrived
pub none_arrived : (j : ℕ) (ps : List Platoon) → sum_by (arrived 0 j) ps ≡ 0
none_arrived j [] = refl
none_arrived j (p ∷ ps) = grind (arith, nat_tests, sum_by-cons (arrived 0 j) p ps, none_arrived j ps)

-- The first n steps of the second turn of each platoon have gone by, and have been added to two turns where they arrive.
pub record HaveArrived (r : Ready) (old : List ℕ) (n : ℕ) (goings : List Passing) (turns : List ℕ) : Type 0 where
  pub passed : HavePassed r.platoons.now (r.step_count + n) goings
  pub sums : (j : ℕ) → get_or turns j 0 ≡ get_or old j 0 + sum_by (arrived n j) r.platoons.now
  pub small : All (λ v. v < 2 ^ 48 + n * 2 ^ 24) turns

-- one step more has arrived
pub one_arrived : (r : Ready) (old : List ℕ) (n m : ℕ) (goings after : List Passing) (turns next : List ℕ) → n + 1 ≡ m
    → HavePassed r.platoons.now (r.step_count + (n + 1)) after
    → ((j : ℕ) → get_or next j 0 + sum_by (arrived n j) r.platoons.now
    ≡ get_or turns j 0 + sum_by (arrived (n + 1) j) r.platoons.now)
    → ((limit : ℕ) → All (λ v. v < limit) turns → All (λ v. v < limit + length r.platoons.now * 2 ^ 22) next)
    → HaveArrived r old n goings turns → HaveArrived r old m after next
one_arrived r old n m goings after turns next more passed arrives grows before =
    subst (λ (k : ℕ). HaveArrived r old k after next) more (record {
      passed = passed;
      sums = λ j. omega (arith, arrives j, before.sums j);
      small = λ k d below. omega (arith, grows _ before.small k d below, r.few);
    })

-- there is room for one step more
pub arrived_room : (r : Ready) (old : List ℕ) (n : ℕ) (goings : List Passing) (turns : List ℕ) → n ≤ 120
    → HaveArrived r old n goings turns → All (λ v. v < 2 ^ 61) turns
arrived_room r old n goings turns few have k d below = omega (arith, have.small k d below, few)
