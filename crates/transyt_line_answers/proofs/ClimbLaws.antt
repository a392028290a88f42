-- A fact that holds of climbs: of one that ends at once, and of one more step.
use Rattle.std.proofs.Common.{◌≡◌, ℕ, zero, suc, ◌+◌, ◌-◌, ◌%◌, Bool, true, false, nat_le, nat_lt, Option, Some, None}
use Rattle.std.proofs.Common.{if◌then◌else◌, refl}
use Rattle.transyt_net.specs.Parts.{Network}
use Rattle.transyt_moves.specs.Moves.{move_count}
use Rattle.transyt_sweep.specs.Climb.{Climb, first, moved, ended, stepped, after_search, climb_within, climb}

-- the fact is one of a network, a place, the looks left and the climb from there
module _ (P : Network → ℕ → ℕ → Climb → Type 0)
    (local : (net : Network) (k left : ℕ) → P net k left (ended true net k (move_count net)))
    (spent : (net : Network) (k left : ℕ) → P net k left (ended false net k left))
    (step : (net : Network) (k left r : ℕ) (rest : Climb) → first net k ≡ Some r → nat_lt r left ≡ true
    → P (moved net ((k + r) % move_count net)) ((k + r) % move_count net) (left - (r + 1)) rest
    → P net k left (stepped net k (r + 1) ((k + r) % move_count net) rest)) where
  of_climb_within : (most : ℕ) (net : Network) (k left : ℕ) → P net k left (climb_within most net k left)
  of_climb_within zero net k left = spent net k left
  of_climb_within (suc most) net k left =
      let Goal : Climb → Type 0 = P net k left in
      let none : (b : Bool) → Goal (if b then ended true net k (move_count net) else ended false net k left) =
      elim [ true ↦ local net k left | false ↦ spent net k left ] in
      let some : (r : ℕ) → first net k ≡ Some r
      → Goal (after_search (climb_within most) net k (move_count net) left (Some r)) = λ r is.
      let place = (k + r) % move_count net in
      let rest = climb_within most (moved net place) place (left - (r + 1)) in
      let by : (b : Bool) → nat_lt r left ≡ b
      → Goal (if b then stepped net k (r + 1) place rest else ended false net k left) = elim [
        | true ↦ λ less. step net k left r rest is less (of_climb_within most (moved net place) place (left - (r + 1)))
        | false ↦ λ less. spent net k left
      ] in
      by (nat_lt r left) refl in
      let cases : (o : Option ℕ) → first net k ≡ o
      → Goal (after_search (climb_within most) net k (move_count net) left o) =
      elim [ None ↦ λ is. none (nat_le (move_count net) left) | Some r ↦ some r ] in
      cases (first net k) refl

  pub of_climb : (net : Network) (k left : ℕ) → P net k left (climb net k left)
  unfolding climb
  of_climb net k left = of_climb_within (left + 1) net k left
