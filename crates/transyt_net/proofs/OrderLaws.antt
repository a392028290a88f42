-- Where numbers differ, each stands at one place alone.
use Rattle.std.proofs.Common.{◌≡◌, ℕ, zero, suc, ◌<◌, true, false, nat_eq, nat_lt, List, [], ◌∷◌, length}
use Rattle.std.proofs.Common.{get_or, Some, None, if◌then◌else◌, lt-ltb, ap, ◌∙◌, arith}
use Rattle.std.specs.List.{position_or_len}
use Rattle.std.proofs.lemmas.Bool.Decides.{nat_tests}
use Rattle.std.proofs.lemmas.List.Folds.{list_any_at}
use Rattle.std.proofs.lemmas.List.Sums.{position_or_len_is}
use Rattle.transyt_net.specs.Valid.{all_differ, place_of}

-- of numbers that differ one that stands later is not one that stands earlier
pub earlier_differs : (ns : List ℕ) (i k : ℕ) → all_differ ns ≡ true → k < i → i < length ns
    → nat_eq (get_or ns i 0) (get_or ns k 0) ≡ false
earlier_differs [] i k differ earlier inside = absurd (omega arith)
earlier_differs (x ∷ xs) zero k differ earlier inside = absurd (omega arith)
earlier_differs (x ∷ xs) (suc i) zero differ earlier inside = grind (arith, nat_tests, list_any_at (nat_eq x) xs i 0)
earlier_differs (x ∷ xs) (suc i) (suc k) differ earlier inside = grind (arith, nat_tests, earlier_differs xs i k)

-- so a search finds each where it stands
pub place_alone : (ns : List ℕ) (k p : ℕ) → all_differ ns ≡ true → p < length ns → get_or ns p 0 ≡ k
    → place_of ns k ≡ Some p
place_alone ns k p differ inside here =
    let at : position_or_len (nat_eq k) ns ≡ p =
    position_or_len_is (nat_eq k) ns p 0 (omega arith) (λ j earlier. grind (arith, nat_tests, earlier_differs ns p j differ earlier inside))
    (λ _. grind (arith, nat_tests)) in
    ap (λ n. if nat_lt n (length ns) then Some n else None) at ∙ ap (λ b. if b then Some p else None) (lt-ltb p (length ns) inside)
