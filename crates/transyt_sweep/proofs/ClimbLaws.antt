-- A climb, without the count of its steps.
use Rattle.std.proofs.Common.{◌≡◌, ℕ, zero, suc, ◌+◌, ◌-◌, ◌%◌, ◌<◌, Option, Some, None, refl, ap}
use Rattle.std.proofs.Common.{◌∙◌, arith}
use Rattle.std.proofs.lemmas.Bool.Decides.{nat_tests}
use Rattle.transyt_net.specs.Parts.{Network}
use Rattle.transyt_moves.specs.Moves.{move_count}
use Rattle.transyt_sweep.specs.Climb.{Climb, after_search, moved, first, climb_within, climb}

-- the climb after a search has fewer looks left
after_same : (f g : Network → ℕ → ℕ → Climb) (net : Network) (k n left : ℕ) (found : Option ℕ)
    → ((to : Network) (place less : ℕ) → less < left → f to place less ≡ g to place less)
    → after_search f net k n left found ≡ after_search g net k n left found
after_same f g net k n left None same = refl
after_same f g net k n left (Some r) same =
    let place : ℕ = (k + r) % move_count net in
    grind (arith, nat_tests, same (moved net place) place (left - (r + 1)))

-- more steps than looks are enough, however many they are
within_same : (m n : ℕ) (net : Network) (k left : ℕ) → left < m → left < n
    → climb_within m net k left ≡ climb_within n net k left
within_same zero n net k left m_more n_more = absurd (omega arith)
within_same (suc m) zero net k left m_more n_more = absurd (omega arith)
within_same (suc m) (suc n) net k left m_more n_more =
    after_same (climb_within m) (climb_within n) net k (move_count net) left (first net k)
    (λ to place less fewer. within_same m n to place less (omega arith) (omega arith))

-- a climb is its first search and what follows it
pub climb_is : (net : Network) (k left : ℕ)
    → climb net k left ≡ after_search climb net k (move_count net) left (first net k)
unfolding climb
climb_is net k left =
    let next : left + 1 ≡ suc left = omega arith in
    ap (λ m. climb_within m net k left) next
    ∙ after_same (climb_within left) climb net k (move_count net) left (first net k)
    (λ to place less fewer. within_same left (less + 1) to place less (omega arith) (omega arith))
