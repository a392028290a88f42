-- The queue round the cycle, step by step.
use Rattle.std.proofs.Common.{◌≡◌, ℕ, zero, suc, ◌+◌, ◌-◌, ◌<◌, ◌≤◌, List, length, get_or, take}
use Rattle.std.proofs.Common.{refl, ap, sym, ◌∙◌, arith, sum, subst, map, inl, inr}
use Rattle.std.specs.List.{range_with_len}
use Rattle.std.proofs.lemmas.Bool.{cases_lt}
use Rattle.std.proofs.lemmas.List.{take_all}
use Rattle.std.proofs.lemmas.List.Sums.{sum_by_more}
use Rattle.std.proofs.lemmas.List.FromFn.{sum_by-map-range_with_len_more}
use Rattle.transyt_cycle.specs.Cycle.{step_before}
use Rattle.transyt_cycle.proofs.CycleLaws.{step_before-lt}
use Rattle.transyt_profile.specs.StopLine.{sum_back, greatest, queue_at, out_at, outs, turn}
use Rattle.transyt_profile.proofs.BackSums.{back_full}
use Rattle.transyt_profile.proofs.Greatest.{greatest_shift, greatest_turn}

-- the greatest excess over up to n last steps
abbrev queue_over : List ℕ → List ℕ → ℕ → ℕ → ℕ
queue_over arrivals go n i = greatest (λ m. sum_back arrivals i m - sum_back go i m) n

-- the greatest excess over one step more is that of a step before, with the arrivals and GO of this step
queue_over_more : (arrivals go : List ℕ) (n i : ℕ) → length go ≡ length arrivals
    → queue_over arrivals go (suc n) i
    ≡ queue_over arrivals go n (step_before (length arrivals) i) + get_or arrivals i 0 - get_or go i 0
unfolding sum_back
queue_over_more arrivals go n i same_length =
    let before : ℕ = step_before (length arrivals) i in
    greatest_shift (sum_back arrivals i) (sum_back go i) (sum_back arrivals before) (sum_back go before)
    (get_or arrivals i 0) (get_or go i 0) n refl refl (λ m. refl)
    (λ m. ap (λ k. get_or go i 0 + sum_back go (step_before k i) m) same_length)

-- the queue of the repeating cycle obeys the recurrence at every step, at step 0 from the last
pub queue_more : (arrivals go : List ℕ) (i : ℕ)
    → length go ≡ length arrivals → sum arrivals ≤ sum go → i < length arrivals
    → queue_at arrivals go i
    ≡ queue_at arrivals go (step_before (length arrivals) i) + get_or arrivals i 0 - get_or go i 0
unfolding sum_back
queue_more arrivals go i same_length served below =
    let before : ℕ = step_before (length go) i in
    let within : before < length go = step_before-lt (length go) i (omega arith) in
    let less : sum_back arrivals i (suc (length arrivals)) - sum_back go i (suc (length arrivals))
    ≤ sum_back arrivals i 1 - sum_back go i 1 =
    omega (
      arith,
      back_full arrivals (step_before (length arrivals) i) (step_before-lt (length arrivals) i below),
      back_full go before within,
      ap (sum_back go before) same_length,
    ) in
    sym (greatest_turn (λ m. sum_back arrivals i m - sum_back go i m) (length arrivals) (omega arith) less)
    ∙ queue_over_more arrivals go (length arrivals) i same_length

-- the step before a step past the first is one less
step_before_pos : (n i : ℕ) → 0 < i → step_before n i ≡ i - 1
step_before_pos n zero positive = absurd (omega arith)
step_before_pos n (suc i) positive = omega arith

-- one step more of a turn
pub turn_more : (arrivals go : List ℕ) (begin i : ℕ)
    → turn arrivals go begin (i + 1) ≡ turn arrivals go begin i + get_or arrivals i 0 - get_or go i 0
turn_more arrivals go begin i = let next : i + 1 ≡ suc i = omega arith in ap (turn arrivals go begin) next

-- two turns that are one at step i are one from there on
pub turns_meet : (arrivals go : List ℕ) (one other i : ℕ)
    → turn arrivals go one i ≡ turn arrivals go other i
    → (k : ℕ) → i ≤ k → turn arrivals go one k ≡ turn arrivals go other k
turns_meet arrivals go one other i same zero from =
    let first : i ≡ 0 = omega arith in
    subst (λ (m : ℕ). turn arrivals go one m ≡ turn arrivals go other m) first same
turns_meet arrivals go one other i same (suc k) from =
    elim (cases_lt k i) as (λ w. turn arrivals go one (suc k) ≡ turn arrivals go other (suc k)) [
      | inl last ↦
          let here : i ≡ suc k = omega arith in
          subst (λ (m : ℕ). turn arrivals go one m ≡ turn arrivals go other m) here same
      | inr before ↦ omega (arith, turns_meet arrivals go one other i same k before)
    ]

-- a turn from no queue has the greatest excess of the steps passed
turn_is : (arrivals go : List ℕ) (n : ℕ) → length go ≡ length arrivals
    → turn arrivals go 0 n ≡ queue_over arrivals go n (step_before (length arrivals) n)
unfolding greatest
turn_is arrivals go zero same_length = refl
turn_is arrivals go (suc n) same_length =
    omega (arith, turn_is arrivals go n same_length, queue_over_more arrivals go n n same_length)

-- the turn after it has the queue of the repeating cycle
pub second_is : (arrivals go : List ℕ) (left i : ℕ) → length go ≡ length arrivals → sum arrivals ≤ sum go
    → i < length arrivals → left ≡ turn arrivals go 0 (length arrivals)
    → (turn arrivals go left i ≡ queue_at arrivals go (step_before (length arrivals) i))
    × (turn arrivals go left (i + 1) ≡ queue_at arrivals go i)
second_is arrivals go left zero same_length served below is =
    let begins : left ≡ queue_at arrivals go (length arrivals - 1) =
    is ∙ turn_is arrivals go (length arrivals) same_length
    ∙ ap (queue_at arrivals go) (step_before_pos (length arrivals) (length arrivals) (omega arith)) in
    (begins, omega (arith, begins, turn_more arrivals go left 0, queue_more arrivals go 0 same_length served below))
second_is arrivals go left (suc i) same_length served below is =
    let next : i + 1 ≡ suc i = omega arith in
    let so_far : turn arrivals go left (suc i) ≡ queue_at arrivals go i =
    sym (ap (turn arrivals go left) next) ∙ (second_is arrivals go left i same_length served (omega arith) is).1 in
    (so_far, omega (arith, so_far, turn_more arrivals go left (suc i), queue_more arrivals go (suc i) same_length served below))

-- the departures of the first n steps and the queue then are the queue at the start and the arrivals so far
outs_so_far : (arrivals go : List ℕ) (n : ℕ)
    → length go ≡ length arrivals → sum arrivals ≤ sum go → n ≤ length arrivals
    → sum (map (out_at arrivals go) (range_with_len 0 n)) + queue_at arrivals go (step_before (length arrivals) n)
    ≡ queue_at arrivals go (length arrivals - 1) + sum (take n arrivals)
outs_so_far arrivals go zero same_length served most = omega arith
outs_so_far arrivals go (suc n) same_length served most =
    let next : n + 1 ≡ suc n = omega arith in
    omega (
      arith,
      outs_so_far arrivals go n same_length served (omega arith),
      queue_more arrivals go n same_length served (omega arith),
      sum_by-map-range_with_len_more (λ x. x) (out_at arrivals go) 0 n n (omega arith),
      ap (λ k. sum (map (out_at arrivals go) (range_with_len 0 k))) next,
      sum_by_more (λ x. x) arrivals n 0 (omega arith),
      ap (λ k. sum (take k arrivals)) next,
    )

-- the departures of a cycle sum to its arrivals
pub outs_total : (arrivals go : List ℕ) → 0 < length arrivals → length go ≡ length arrivals → sum arrivals ≤ sum go
    → sum (outs arrivals go) ≡ sum arrivals
outs_total arrivals go positive same_length served =
    omega (
      arith,
      outs_so_far arrivals go (length arrivals) same_length served (omega arith),
      ap (queue_at arrivals go) (step_before_pos (length arrivals) (length arrivals) positive),
      ap sum (take_all (length arrivals) arrivals (omega arith)),
    )

-- no more leaves than the green lets pass
pub out-le-go : (arrivals go : List ℕ) (i : ℕ)
    → length go ≡ length arrivals → sum arrivals ≤ sum go → i < length arrivals
    → out_at arrivals go i ≤ get_or go i 0
out-le-go arrivals go i same_length served below = omega (arith, queue_more arrivals go i same_length served below)
