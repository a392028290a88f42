-- Laws of the search for the first number that passes.
use Rattle.std.proofs.Common.{◌≡◌, ℕ, zero, suc, ◌+◌, ◌-◌, ◌<◌, ◌≤◌, Bool, true, false, arith, sym, ◌∙◌, ap, refl, inl, inr, List, length, get_or, drop}
use Rattle.std.specs.List.{find}
use Rattle.std.proofs.lemmas.List.{drop_more}
use Rattle.std.proofs.Math.Nat.{eq-or-lt_of_le}
use Rattle.std.proofs.lemmas.Bool.{cases_Bool}
use Rattle.transyt_parts.specs.Parts.{LinkValue}
use Rattle.transyt_net.specs.Parts.{no_link}
use Rattle.transyt_equisat.specs.Balance.{first_from}

-- a number that doesn't pass
pub first_skip : (test : ℕ → Bool) (end e : ℕ) → e < end → test e ≡ false
    → first_from test (e + 1) (end - (e + 1)) ≡ first_from test e (end - e)
first_skip test end e before fails = let more : end - e ≡ suc (end - (e + 1)) = omega arith in rw (more, fails)

-- the first that passes
pub first_here : (test : ℕ → Bool) (end e : ℕ) → e < end → test e ≡ true → first_from test e (end - e) ≡ e
first_here test end e before passes = let more : end - e ≡ suc (end - (e + 1)) = omega arith in rw (more, passes)

-- two tests that agree from e on find the same
pub first_same : (a b : ℕ → Bool) (e n : ℕ) → ((k : ℕ) → e ≤ k → a k ≡ b k) → first_from a e n ≡ first_from b e n
first_same a b e zero agree = refl
first_same a b e (suc n) agree = rw (agree e (omega arith), first_same a b (e + 1) n (λ k after. agree k (omega arith)))

-- where a number passes, one is found that passes, and none before it
pub first_least : (test : ℕ → Bool) (e n k : ℕ) → e ≤ k → k ≤ e + n → test k ≡ true
    → (e ≤ first_from test e n) × (first_from test e n ≤ k) × (test (first_from test e n) ≡ true)
first_least test e zero k low high passes =
    let same : k ≡ e = omega arith in (omega arith, low, ap test (sym same) ∙ passes)
first_least test e (suc n) k low high passes =
    elim (cases_Bool (test e)) [
      | inl here ↦ rw here (omega arith, low, here)
      | inr fails ↦ elim (eq-or-lt_of_le low) [
        | inl same ↦ absurd (let here : test e ≡ true = ap test same ∙ passes in cc (here, fails))
        | inr later ↦
            let rest = first_least test (e + 1) n k (omega arith) (omega arith) passes in
            rw fails (omega (arith, rest.0), rest.1, rest.2)
      ]
    ]

-- a search in links goes on behind a link that doesn't pass
pub find_skip : (test : LinkValue → Bool) (links : List LinkValue) (p : ℕ) → p < length links → test (get_or links p no_link) ≡ false
    → find test (drop (p + 1) links) ≡ find test (drop p links)
find_skip test links p inside fails = rw (drop_more links p no_link inside, fails)
