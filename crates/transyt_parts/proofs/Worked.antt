-- The worked values, computed from the definitions.
use Rattle.std.proofs.Common.{◌≡◌, true, false, [], ◌∷◌, map, refl, replicate}
use Rattle.transyt_parts.specs.WorkedPlans as plan
use Rattle.transyt_parts.specs.WorkedParts as part

-- the plans
pub plans : map (λ r. r.0) plan.faults ≡ map (λ r. r.1) plan.faults
plans = refl

-- the lengths of stages
pub lengths : map (λ r. r.0) plan.lengths ≡ map (λ r. r.1) plan.lengths
lengths = refl

-- the first faults of nodes
pub first_faults : map (λ r. r.0) plan.first_faults ≡ map (λ r. r.1) plan.first_faults
first_faults = refl

-- stages by place
pub stages_found : map (λ r. r.0) plan.stages_found ≡ map (λ r. r.1) plan.stages_found
stages_found = refl

-- the ranges at their ends
pub ends : part.ends ≡ replicate 9 (false ∷ true ∷ true ∷ false ∷ [])
ends = refl

-- the limits
pub limits : part.limits ≡ 9999 ∷ 100 ∷ 9999 ∷ 999 ∷ 400 ∷ 8 ∷ 16 ∷ []
limits = refl

-- links
pub links : map (λ r. r.0) part.links ≡ map (λ r. r.1) part.links
links = refl

-- nodes
pub nodes : map (λ r. r.0) part.nodes ≡ map (λ r. r.1) part.nodes
nodes = refl

-- climb plans
pub climb_plans : map (λ r. r.0) part.plans ≡ map (λ r. r.1) part.plans
climb_plans = refl

-- numbers of parts
pub counts : part.counts ≡ 539 ∷ 4 ∷ 21 ∷ 5 ∷ 2 ∷ []
counts = refl

-- tests of parts
pub tests : part.tests ≡ true ∷ false ∷ false ∷ true ∷ true ∷ false ∷ false ∷ []
tests = refl
