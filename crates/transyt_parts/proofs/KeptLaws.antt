-- The facts of a node and those of a climb plan, by the tests of their numbers.
use Rattle.std.proofs.Common.{◌↔◌, ℕ, ◌-◌, ◌<◌, ◌≤◌, length, All, IsTrue, arith}
use Rattle.std.proofs.lemmas.Bool.Decides.{nat_tests}
use Rattle.std.proofs.lemmas.List.Elements.{All-weaker}
use Rattle.transyt_parts.specs.Parts.{NodeValue, PlanValue}
use Rattle.transyt_parts.specs.Ranges.{is_in, IsWithin, budget_range, most_stages, most_sizes}
use Rattle.transyt_parts.specs.Valid.{node_in_range, IsNode, IsStage, IsPlan}

-- a node keeps to its ranges
pub node_kept : (steps : ℕ) (n : NodeValue)
    → IsNode steps n ↔ IsTrue (node_in_range steps n.number n.offset)
    × (length n.stages ≤ most_stages) × All (IsStage steps) n.stages
node_kept steps n = ((λ h. grind (arith, nat_tests)), (λ h. grind (arith, nat_tests)))

-- a climb plan keeps to its ranges
pub plan_kept : (steps : ℕ) (p : PlanValue)
    → IsPlan steps p ↔ IsTrue (is_in budget_range p.budget)
    × IsWithin 1 most_sizes (length p.sizes) × All (IsWithin 1 (steps - 1)) p.sizes
plan_kept steps p = (
  (λ h.
      let sizes : All (IsWithin 1 (steps - 1)) p.sizes =
      All-weaker (λ x. (1 ≤ x) × (x < steps)) (IsWithin 1 (steps - 1)) (λ x k. (k.0, omega (arith, k.0, k.1))) p.sizes h.sizes in
      grind (arith, nat_tests)),
  (λ h.
      let sizes : All (λ x. (1 ≤ x) × (x < steps)) p.sizes =
      All-weaker (IsWithin 1 (steps - 1)) (λ x. (1 ≤ x) × (x < steps)) (λ x k. (k.0, omega (arith, k.0, k.1))) p.sizes h.2 in
      grind (arith, nat_tests)),
)
