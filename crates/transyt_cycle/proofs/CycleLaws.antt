-- Laws of steps round a cycle.
use Rattle.std.proofs.Common.{◌≡◌, ℕ, zero, suc, ◌+◌, ◌-◌, ◌*◌, ◌/◌, ◌%◌, ◌<◌, ◌≤◌, ap, sym, ◌∙◌, arith}
use Rattle.std.proofs.Math.Nat.{mod-add-mod, add-mul-mod_self_right, mod-eq_of_lt, mod-lt, mod-add-div', mod_self, add-mod_right}
use Rattle.transyt_cycle.specs.Cycle.{minus_mod, step_before}

-- a difference round the cycle is a step of it
pub minus_mod-lt : (n a b : ℕ) → 0 < n → minus_mod n a b < n
minus_mod-lt n a b positive = mod-lt (a + (n - b % n)) positive

-- b and the rest of its last turn are whole turns
pub rest_of_turns : (n a b : ℕ) → 0 < n → (a + (n - b % n)) + b ≡ a + (b / n + 1) * n
rest_of_turns n a b positive = omega (arith, mod-lt b positive, mod-add-div' b n)

-- b steps on from the difference stands a
pub minus_mod-add : (n a b : ℕ) → 0 < n → (minus_mod n a b + b) % n ≡ a % n
minus_mod-add n a b positive =
    mod-add-mod (a + (n - b % n)) n b ∙ ap (λ k. k % n) (rest_of_turns n a b positive)
    ∙ add-mul-mod_self_right a (b / n + 1) n

-- t steps on and t steps back lead to the same step
pub minus_mod-of_add : (n m t : ℕ) → m < n → minus_mod n ((m + t) % n) t ≡ m
minus_mod-of_add n m t below =
    let positive : 0 < n = omega arith in
    let turns : (m + t) + (n - t % n) ≡ m + (t / n + 1) * n = omega (arith, rest_of_turns n m t positive) in
    mod-add-mod (m + t) n (n - t % n) ∙ ap (λ k. k % n) turns
    ∙ add-mul-mod_self_right m (t / n + 1) n ∙ mod-eq_of_lt below

-- two steps that t steps lead to one step are the same
pub turned_apart : (n m i t : ℕ) → m < n → i < n → (m + t) % n ≡ (i + t) % n → m ≡ i
turned_apart n m i t m_below i_below same =
    sym (minus_mod-of_add n m t m_below) ∙ ap (λ k. minus_mod n k t) same ∙ minus_mod-of_add n i t i_below

-- whole turns of the first step change nothing
pub minus_mod-mod : (n a b : ℕ) → minus_mod n (a % n) b ≡ minus_mod n a b
minus_mod-mod n a b = mod-add-mod a n (n - b % n)

-- where b comes first in its turn, the difference is the plain one of the places
pub minus_mod-above : (n a b : ℕ) → 0 < n → b % n ≤ a % n → minus_mod n a b ≡ a % n - b % n
minus_mod-above n a b positive after =
    let there : a % n < n = mod-lt a positive in
    let turn : a % n + (n - b % n) ≡ (a % n - b % n) + n = omega arith in
    let below : a % n - b % n < n = omega arith in
    sym (minus_mod-mod n a b) ∙ ap (λ k. k % n) turn ∙ add-mod_right (a % n - b % n) n ∙ mod-eq_of_lt below

-- whole turns back lead to the same step
pub minus_mod-turns : (n a b : ℕ) → a < n → b % n ≡ 0 → minus_mod n a b ≡ a
minus_mod-turns n a b below whole =
    minus_mod-above n a b (omega arith) (omega arith) ∙ omega (arith, mod-eq_of_lt below)

-- where a comes first in its turn, the difference is the rest of the turn
pub minus_mod-under : (n a b : ℕ) → 0 < n → a % n < b % n → minus_mod n a b ≡ n - (b % n - a % n)
minus_mod-under n a b positive before =
    let there : b % n < n = mod-lt b positive in
    let rest : a % n + (n - b % n) ≡ n - (b % n - a % n) = omega arith in
    let below : n - (b % n - a % n) < n = omega arith in
    sym (minus_mod-mod n a b) ∙ ap (λ k. k % n) rest ∙ mod-eq_of_lt below

-- the step before a step of the cycle is a step of it
pub step_before-lt : (n i : ℕ) → i < n → step_before n i < n
step_before-lt n zero below = omega arith
step_before-lt n (suc i) below = omega arith

-- one step on from the step before a step stands the step
pub step_before-then : (n i : ℕ) → i < n → (step_before n i + 1) % n ≡ i
step_before-then n zero below = let turn : n - 1 + 1 ≡ n = omega arith in ap (λ k. k % n) turn ∙ mod_self n
step_before-then n (suc i) below =
    let next : suc i ≡ i + 1 = omega arith in sym (ap (λ k. k % n) next) ∙ mod-eq_of_lt below

-- a difference from the step before is one step less
pub minus_mod-step_before : (n i m : ℕ) → i < n → minus_mod n (step_before n i) m ≡ minus_mod n i (m + 1)
minus_mod-step_before n i m below =
    let positive : 0 < n = omega arith in
    let back : ℕ = minus_mod n (step_before n i) m in
    let whole : back + (m + 1) ≡ back + m + 1 = omega arith in
    let there : (back + (m + 1)) % n ≡ i =
    ap (λ k. k % n) whole ∙ sym (mod-add-mod (back + m) n 1)
    ∙ ap (λ k. (k + 1) % n) (minus_mod-add n (step_before n i) m positive ∙ mod-eq_of_lt (step_before-lt n i below))
    ∙ step_before-then n i below in
    turned_apart n back (minus_mod n i (m + 1)) (m + 1)
    (minus_mod-lt n (step_before n i) m positive) (minus_mod-lt n i (m + 1) positive)
    (there ∙ sym (minus_mod-add n i (m + 1) positive ∙ mod-eq_of_lt below))
