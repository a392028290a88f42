-- Platoons of a group: the first three or four of four.
use Rattle.std.proofs.Common.{◌≡◌, ℕ, ◌-◌, List, [], ◌∷◌, length, take, get_or, arith}
use Rattle.transyt_profile.specs.declared.platoon.Platoon.{Platoon}
use Rattle.transyt_profile.specs.Arriving.{arriving, with_arriving}
use Rattle.transyt_profile.specs.Profile.{added}
use Rattle.transyt_sweep.specs.declared.factors.Factors.{Factors}
use Rattle.transyt_sweep.specs.Inflow.{IsGroup, carried, with_carried}

-- what they bring is what the factors of the slots bring, whose last has the fourth
pub group_carried : (read : ℕ → List ℕ) (come : List ℕ) (slots : List Factors) (a b c d : Platoon)
    → IsGroup (length slots) → ((none : Factors) → arriving a ≡ carried read (get_or slots 0 none))
    → ((none : Factors) → arriving b ≡ carried read (get_or slots 1 none))
    → ((none : Factors) → arriving c ≡ carried read (get_or slots 2 none))
    → ((none : Factors) → arriving d ≡ carried read (get_or slots (length slots - 1) none))
    → with_arriving come (take (length slots) (a ∷ b ∷ c ∷ d ∷ [])) ≡ with_carried read come slots
group_carried read come [] a b c d group first second third fourth = absurd (omega (arith, group.some))
group_carried read come (s ∷ []) a b c d group first second third fourth = absurd (omega (arith, group.some))
group_carried read come (s ∷ t ∷ []) a b c d group first second third fourth = absurd (omega (arith, group.some))
group_carried read come (s ∷ t ∷ u ∷ []) a b c d group first second third fourth =
    (λ j. added (added (added come (first s j)) (second s j)) (third s j))
group_carried read come (s ∷ t ∷ u ∷ v ∷ []) a b c d group first second third fourth =
    (λ j. added (added (added (added come (first s j)) (second s j)) (third s j)) (fourth s j))
group_carried read come (s ∷ t ∷ u ∷ v ∷ w ∷ more) a b c d group first second third fourth =
    absurd (omega (arith, group.few))
