-- The plans of a node by their greens, and their peaks. Greens, intergreens and lengths are in steps.
use Rattle.std.specs.Prelude.{ℕ, ◌+◌, ◌-◌, ◌≡◌, ◌<◌, ◌≤◌, List, length, map, sum, sum_by, slice_index, None}
use Rattle.std.specs.List.{filter, range_with_len}
use Rattle.transyt_parts.specs.declared.node.Stage.{Stage}
use Rattle.transyt_parts.specs.Parts.{LinkValue}
use Rattle.transyt_parts.specs.Plan.{stage_of, length_at, plan_fault}
use Rattle.transyt_parts.specs.Made.{bare_stage}
use Rattle.transyt_net.specs.Parts.{Network}
use Rattle.transyt_equisat.specs.declared.fraction.Fraction.{Fraction}
use Rattle.transyt_equisat.specs.Degrees.{greatest, is_counted, first_stage, degree}

-- the steps of the cycle that intergreens take
abbrev pub intergreens : List Stage → ℕ
intergreens stages = sum_by (λ s. s.intergreen) stages

-- greens of these stages, none below its least, that with the intergreens fill the cycle
pub record Fits (steps : ℕ) (stages : List Stage) (greens : List ℕ) : Type 0 where
  pub count : length greens ≡ length stages
  pub least : (k : ℕ) → k < length stages → (stage_of stages k).least ≤ slice_index greens k
  pub fills : sum greens + intergreens stages ≡ steps

-- the green of a counted link's stage
abbrev pub green_of : List ℕ → LinkValue → ℕ
green_of greens l = slice_index greens (first_stage l - 1)

-- the peak of greens at the node of a number: the greatest degree of its counted links, 0 where there is none
abbrev pub peak : Network → ℕ → List ℕ → Fraction
peak net number greens =
    greatest (map (λ l. degree net.frame.step_count l (green_of greens l)) (filter (is_counted number) net.links))

-- the greens of stages in order: each is the stage's length less its intergreen
abbrev pub greens_of : ℕ → List Stage → List ℕ
greens_of steps stages =
    map (λ k. length_at steps stages k - (stage_of stages k).intergreen) (range_with_len 0 (length stages))

-- an allowed plan with the intergreens and least greens of these stages, whatever its changes
pub record IsPlanOf (steps : ℕ) (stages plan : List Stage) : Type 0 where
  pub same : map bare_stage plan ≡ map bare_stage stages
  pub allowed : plan_fault steps plan ≡ None
