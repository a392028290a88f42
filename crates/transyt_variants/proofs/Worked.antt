-- The worked starts and cycle times, computed from the definitions.
use Rattle.std.proofs.Common.{◌≡◌, [], ◌∷◌, map, refl}
use Rattle.transyt_equisat.specs.WorkedBalances.{even_town, worked_town}
use Rattle.transyt_make.specs.Draws.{after_draws}
use Rattle.transyt_variants.specs.Starts.{start_at}
use Rattle.transyt_variants.specs.Cycles.{at_cycle}
use Rattle.transyt_variants.specs.WorkedVariants.{worked_starts, town_at_135, town_at_55, town_at_90, even_town_at_140, unplanned, bounds}

pub starts_are : map (start_at worked_town 7) (0 ∷ 1 ∷ 2 ∷ 3 ∷ 4 ∷ []) ≡ worked_starts
unfolding start_at after_draws
starts_are = refl

pub plan_at_135 : at_cycle worked_town 135 ≡ town_at_135
unfolding at_cycle
plan_at_135 = refl

pub plan_at_55 : at_cycle worked_town 55 ≡ town_at_55
unfolding at_cycle
plan_at_55 = refl

pub plan_at_90 : at_cycle worked_town 90 ≡ town_at_90
unfolding at_cycle
plan_at_90 = refl

pub even_plan : at_cycle even_town 140 ≡ even_town_at_140
unfolding at_cycle
even_plan = refl

pub bounds_are : map (λ c. at_cycle c.net c.cycle) bounds ≡ map (λ c. c.comes_to) bounds
unfolding at_cycle
bounds_are = refl

pub unplanned_are : map (λ c. at_cycle c.net c.cycle) unplanned ≡ map (λ c. c.comes_to) unplanned
unfolding at_cycle
unplanned_are = refl
