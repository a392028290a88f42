-- A worked plan, and what worked answers are not worth.
use Rattle.std.proofs.Common.{◌≡◌, ◌≤◌, ◌+◌, ℕ, List, [], ◌∷◌, All, refl, arith, sym, subst}
use Rattle.std.proofs.lemmas.List.Elements.{All-from_recursion}
use Rattle.std.proofs.lemmas.List.Sums.{sum_by-cons}
use Rattle.transyt_net.specs.Parts.{node_of}
use Rattle.transyt_equisat.specs.Balance.{GreensValue, IsBalanced, peak_told}
use Rattle.transyt_equisat.specs.Degrees.{AtMost}
use Rattle.transyt_equisat.specs.Peaks.{Fits, IsPlanOf, peak, greens_of}
use Rattle.transyt_equisat.specs.WorkedBalances.{worked_town}
use Rattle.transyt_equisat.specs.WorkedPeaks.{stages_of_21, stages_of_7, tight_node, tight_town}
use Rattle.transyt_equisat.specs.WorkedPeaks.{tight, worthless, not_least}
use Rattle.transyt_equisat.proofs.PlanFits.{plan_fits}

-- a plan of node 21
pub planned : IsPlanOf 18 (stages_of_21 2 8 15) (stages_of_21 2 10 16)
planned = record { same = refl; allowed = refl }

-- the greens of the tight node
tight_greens : (es : List ℕ) → Fits 10 tight_node.stages es → es ≡ 4 ∷ 3 ∷ []
tight_greens [] f = absurd (omega (arith, f.count))
tight_greens (a ∷ []) f = absurd (omega (arith, f.count))
tight_greens (a ∷ b ∷ []) f =
    let first : 4 ≤ a = f.least 0 (omega arith) in
    let second : 3 ≤ b = f.least 1 (omega arith) in
    let all : a + b + 3 ≡ 10 = omega (arith, f.fills, sum_by-cons (λ n. n) a (b ∷ []), sum_by-cons (λ n. n) b []) in
    let four : a ≡ 4 = omega arith in
    let three : b ≡ 3 = omega arith in
    cc
tight_greens (a ∷ b ∷ c ∷ es) f = absurd (omega (arith, f.count))

-- the answer for that node is worth what is said
pub tight_is : IsBalanced tight_town tight_node (tight 3110 6220 4 5 3 3)
tight_is = record {
  allowed = record { same = refl; allowed = refl };
  greens = refl;
  attained = refl;
  least = λ plan is.
      subst (λ (es : List ℕ). AtMost (peak_told (tight 3110 6220 4 5 3 3)) (peak tight_town 7 es))
      (sym (tight_greens (greens_of 10 plan) (plan_fits 10 tight_node.stages plan is))) (omega arith);
  certificate = λ above. omega arith;
}

-- other answers aren't
pub none_is_balanced : All (λ g. IsBalanced tight_town tight_node g → ⊥) worthless
none_is_balanced =
    All-from_recursion (λ (g : GreensValue). IsBalanced tight_town tight_node g → ⊥) worthless (
      (λ h. absurd (cc h.allowed.allowed)),
      (
        (λ h. absurd (cc h.greens)),
        (
          (λ h. omega (arith, h.attained)),
          ((λ h. omega (arith, h.certificate (omega arith))), ((λ h. omega (arith, h.certificate (omega arith))), tt)),
        ),
      ),
    )

-- neither is one with a peak that isn't the least
pub another_is_less : IsBalanced worked_town (node_of worked_town 1) not_least → ⊥
another_is_less h = omega (arith, h.least (stages_of_7 5 14) (record { same = refl; allowed = refl }))
