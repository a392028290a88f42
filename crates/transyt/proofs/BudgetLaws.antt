-- A climb that ended as BUDGET took all its looks.
use Rattle.std.proofs.Common.{◌≡◌, ℕ, zero, suc, ◌+◌, ◌-◌, ◌++◌, true, false, nat_lt, length}
use Rattle.std.proofs.Common.{refl, ap, arith, length-append, ltb-true}
use Rattle.transyt_net.specs.Parts.{Network}
use Rattle.transyt_sweep.specs.Climb.{Climb, looks_from, climb}
use Rattle.transyt_line_answers.proofs.ClimbLaws.{of_climb}

-- so many looks
looks_many : (net : Network) (k n : ℕ) → length (looks_from net k n) ≡ n
looks_many net k zero = refl
looks_many net k (suc n) = ap suc (looks_many net (k + 1) n)

-- the looks of a step and of the climb after it
looks_after : (net : Network) (k left r : ℕ) (rest : Climb) → nat_lt r left ≡ true
    → (rest.local ≡ false → length rest.looks ≡ left - (r + 1)) → rest.local ≡ false
    → length (looks_from net k (r + 1) ++ rest.looks) ≡ left
looks_after net k left r rest less later is =
    let below = ltb-true r left less in
    let here = looks_many net k (r + 1) in
    let there = later is in
    let both = length-append (looks_from net k (r + 1)) rest.looks in
    omega (arith, below, here, there, both)

-- a climb that ended as BUDGET took all its looks
pub climb_spent : (net : Network) (k left : ℕ) → (climb net k left).local ≡ false → length (climb net k left).looks ≡ left
climb_spent =
    of_climb (λ net k left c. c.local ≡ false → length c.looks ≡ left) (λ net k left is. absurd (cc))
    (λ net k left is. looks_many net k left) (λ net k left r rest is less. looks_after net k left r rest less)
