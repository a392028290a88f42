-- Steps back round the cycle, without a division.
use Rattle.std.proofs.Common.{◌≡◌, ℕ, ◌+◌, ◌-◌, ◌%◌, ◌<◌, ◌≤◌, Bool, false, List, length, get_or}
use Rattle.std.proofs.Common.{ap, sym, ◌∙◌, arith}
use Rattle.std.proofs.lemmas.Bool.Decides.{nat_tests}
use Rattle.std.proofs.Math.Nat.{mod-eq_of_lt, add-mod_left}
use Rattle.transyt_cycle.specs.Cycle.{minus_mod}
use Rattle.transyt_cycle.proofs.CycleLaws.{minus_mod-of_add}
use Rattle.transyt_stage.specs.Green.{green_at}

-- a number of steps back, where as many lie before the step
pub back_within : (n i b : ℕ) → i < n → b ≤ i → minus_mod n i b ≡ i - b
back_within n i b below within =
    let there : i - b + b ≡ i = omega arith in
    let at : (i - b + b) % n ≡ i = ap (λ k. k % n) there ∙ mod-eq_of_lt below in
    ap (λ k. minus_mod n k b) (sym at) ∙ minus_mod-of_add n (i - b) b (omega arith)

-- and where there are not, but in a whole cycle
pub back_round : (n i b : ℕ) → i < n → i < b → b ≤ n → minus_mod n i b ≡ n - (b - i)
back_round n i b below past round =
    let there : n - (b - i) + b ≡ n + i = omega arith in
    let at : (n - (b - i) + b) % n ≡ i = ap (λ k. k % n) there ∙ add-mod_left n i ∙ mod-eq_of_lt below in
    ap (λ k. minus_mod n k b) (sym at) ∙ minus_mod-of_add n (n - (b - i)) b (omega arith)

-- without lags a link is green where it is shown
pub green_without_lags : (shown : List Bool) (start_lag end_lag i : ℕ) → i < length shown → start_lag ≡ 0 → end_lag ≡ 0
    → green_at shown start_lag end_lag i ≡ get_or shown i false
green_without_lags shown start_lag end_lag i below no_start no_end =
    rw (no_start, no_end) (grind (arith, nat_tests, back_within (length shown) i 0 below))
