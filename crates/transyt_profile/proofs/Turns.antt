-- A platoon that goes by twice, step by step.
use Rattle.std.proofs.Common.{◌≡◌, ℕ, ◌+◌, ◌*◌, ◌^◌, ◌<◌, List, length, get_or, sym, subst, arith}
use Rattle.std.proofs.lemmas.List.{length-map}
use Rattle.transyt_profile.specs.Profile.{share_of}
use Rattle.transyt_profile.specs.Arriving.{sent}
use Rattle.transyt_profile.specs.Passing.{Fits, gone_by, HasPassed, HavePassed, product_at, steps_of}
use Rattle.transyt_profile.specs.Platoon.{mixed}
use Rattle.transyt_profile.specs.declared.passing.Passing.{Passing}
use Rattle.transyt_profile.specs.declared.platoon.Platoon.{Platoon}
use Rattle.transyt_profile.proofs.Mixing.{first_next, second_next}
use Rattle.transyt_profile.proofs.Parts.{travel_sum}

-- as many steps set out as leave
pub length-sent : (p : Platoon) → length (sent p) ≡ steps_of p
length-sent p = length-map p.leaving.now (share_of p.part.now.part p.part.now.whole)

-- one step of the first turn
pub first_gone : (p : Platoon) (i : ℕ) → i < steps_of p
    → mixed p.travel.now.weight (get_or (sent p) i 0) (gone_by p i) ≡ gone_by p (i + 1)
first_gone p i below = rw p.travel.now.is_weight (sym (first_next (sent p) _ i (omega (arith, below, length-sent p))))

-- one step of the second turn
pub second_gone : (p : Platoon) (i : ℕ) → i < steps_of p
    → mixed p.travel.now.weight (get_or (sent p) i 0) (gone_by p (steps_of p + i)) ≡ gone_by p (steps_of p + 1 + i)
second_gone p i below =
    rw (← length-sent p, p.travel.now.is_weight) (sym (second_next (sent p) _ i (omega (arith, below, length-sent p))))

-- the value that went by after as many steps
pub passed_at : (p : Platoon) (i j : ℕ) (g : Passing) → i ≡ j → HasPassed p i g → HasPassed p j g
passed_at p i j g same passed = subst (λ (k : ℕ). HasPassed p k g) same passed

-- so of some platoons
pub have_passed_at : (ps : List Platoon) (i j : ℕ) (gs : List Passing) → i ≡ j → HavePassed ps i gs → HavePassed ps j gs
have_passed_at ps i j gs same passed = subst (λ (k : ℕ). HavePassed ps k gs) same passed

-- each step that sets out is below the limit of its travel
pub sent_fits : (p : Platoon) (i : ℕ) → Fits p → i < steps_of p → get_or (sent p) i 0 < p.travel.now.limit
sent_fits p i fits below = fits i 0 (omega (arith, below, length-sent p))

-- so the product of the step and that of the smoothed value before it have room
pub step_fits : (p : Platoon) (i value factor : ℕ) → Fits p → i < steps_of p → factor ≡ p.travel.now.before_factor
    → value < p.travel.now.limit → product_at p i + value * factor < 2 ^ 63
step_fits p i value factor fits below is before =
    rw is (travel_sum p.travel.now _ value (sent_fits p i fits below) before)
