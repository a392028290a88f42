-- The number of turns of a round: the least turn that takes a step is found where all before it take none.
use Rattle.std.proofs.Common.{◌≡◌, ℕ, zero, suc, ◌+◌, ◌<◌, Bool, true, false, Some, None, refl, ap, ◌∙◌, arith}
use Rattle.std.proofs.lemmas.Bool.{cond_both, cond-true, cond-false}
use Rattle.std.specs.Option.{option_map}
use Rattle.transyt_sweep.specs.Climb.{least}
use Rattle.transyt_climb.specs.Turns.{Machine, answer_of, turns}
use Rattle.transyt_desks.specs.Rounds.{is_took, up_to, turns_up_to}

-- the least number that passes a test, where all before it fail
least_found : (test : ℕ → Bool) (n i : ℕ) → i < n → ((k : ℕ) → k < i → test k ≡ false) → test i ≡ true
    → least test n ≡ Some i
least_found test zero i less before here = absurd (omega arith)
least_found test (suc n) zero less before here = cond-true (test 0) _ _ here
least_found test (suc n) (suc i) less before here =
    cond-false (test 0) _ _ (before 0 (omega arith))
    ∙ ap (λ found. option_map (λ r. r + 1) found) (least_found (λ r. test (r + 1)) n i (omega arith)
    (λ k fewer. before (k + 1) (omega arith)) (ap test (omega arith) ∙ here))
    ∙ ap Some (omega arith)

-- no number passes a test, where all fail
least_fails : (test : ℕ → Bool) (n : ℕ) → ((k : ℕ) → k < n → test k ≡ false) → least test n ≡ None
least_fails test zero all = refl
least_fails test (suc n) all =
    cond-false (test 0) _ _ (all 0 (omega arith))
    ∙ ap (λ found. option_map (λ r. r + 1) found) (least_fails (λ r. test (r + 1)) n (λ k fewer. all (k + 1) (omega arith)))

-- the turns up to and with the first that takes a step
pub up_to_took : (n i : ℕ) (m : Machine) → i < n → ((k : ℕ) → k < i → is_took (answer_of (turns k m)) ≡ false)
    → is_took (answer_of (turns i m)) ≡ true → turns_up_to n m ≡ i + 1
unfolding turns_up_to
up_to_took n i m less before here =
    ap (λ found. up_to found n) (least_found (λ r. is_took (answer_of (turns r m))) n i less before here)

-- all turns, where none takes a step
pub up_to_all : (n : ℕ) (m : Machine) → ((k : ℕ) → k < n → is_took (answer_of (turns k m)) ≡ false)
    → turns_up_to n m ≡ n
unfolding turns_up_to
up_to_all n m all = ap (λ found. up_to found n) (least_fails (λ r. is_took (answer_of (turns r m))) n all)

-- of one turn there is one
pub up_to_one : (m : Machine) → turns_up_to 1 m ≡ 1
unfolding turns_up_to
up_to_one m = cond_both (is_took (answer_of m)) (Some 0) None (λ found. up_to found 1 ≡ 1) (λ _. refl) (λ _. refl)
