-- Worked stage plans in a cycle of 18 steps: the lengths of the stages, and the first fault.
use Rattle.std.specs.Prelude.{ℕ, List, [], ◌∷◌, Option, Some, None}
use Rattle.transyt_parts.specs.declared.node.Stage.{Stage}
use Rattle.transyt_parts.specs.declared.stage_plan.PlanFault.{PlanFault}
use Rattle.transyt_parts.specs.declared.stage_plan.PlanFault.TheVariants.{FewStages, StageOrder, LeastGreen}
use Rattle.transyt_parts.specs.Parts.{NodeValue}
use Rattle.transyt_parts.specs.Plan.{stage_of, stage_lengths, plan_fault, first_fault}
use Rattle.transyt_parts.specs.Made.{new_stage}

-- three stages that begin at these steps
abbrev pub three : ℕ → ℕ → ℕ → List Stage
three a b c = new_stage a 1 3 ∷ new_stage b 2 4 ∷ new_stage c 0 1 ∷ []

-- four stages that begin at these steps
abbrev pub four : ℕ → ℕ → ℕ → ℕ → List Stage
four a b c d = new_stage a 1 2 ∷ new_stage b 2 3 ∷ new_stage c 0 1 ∷ new_stage d 3 4 ∷ []

-- stages, with their lengths
abbrev pub lengths : List (List ℕ × List ℕ)
lengths =
    (stage_lengths 18 (three 2 8 15), 6 ∷ 7 ∷ 5 ∷ [])
    ∷ (stage_lengths 18 (four 3 7 12 14), 4 ∷ 5 ∷ 2 ∷ 7 ∷ [])
    ∷ (stage_lengths 18 (new_stage 16 3 2 ∷ new_stage 5 1 5 ∷ []), 7 ∷ 11 ∷ [])
    ∷ (stage_lengths 18 (new_stage 9 3 2 ∷ []), 0 ∷ [])
    ∷ []

-- plans, with the first fault of each: the four stages have no step to spare in the second and in the fourth
abbrev pub faults : List (Option PlanFault × Option PlanFault)
faults =
    (plan_fault 18 (three 2 8 15), None)
    ∷ (plan_fault 18 (four 3 7 12 14), None)
    ∷ (plan_fault 18 (four 3 7 11 14), Some LeastGreen)
    ∷ (plan_fault 18 (four 3 7 12 15), Some LeastGreen)
    ∷ (plan_fault 18 (three 2 5 15), Some LeastGreen)
    ∷ (plan_fault 18 (three 8 2 15), Some StageOrder)
    ∷ (plan_fault 18 (three 4 4 4), Some StageOrder)
    ∷ (plan_fault 18 (new_stage 0 9 9 ∷ []), Some FewStages)
    ∷ (plan_fault 18 [], Some FewStages)
    ∷ (plan_fault 18 (new_stage 16 3 2 ∷ new_stage 5 1 5 ∷ []), None)
    ∷ []

-- a node of these stages
abbrev pub node : ℕ → List Stage → NodeValue
node number stages = record { number = number; offset = 4; stages = stages }

-- nodes, with the first fault of all
abbrev pub first_faults : List (Option PlanFault × Option PlanFault)
first_faults =
    (first_fault 18 (node 21 (three 2 8 15) ∷ node 300 (four 3 7 12 14) ∷ []), None)
    ∷ (first_fault 18 (node 21 (three 2 8 15) ∷ node 300 (four 3 7 12 15) ∷ node 7 (three 8 2 15) ∷ []), Some LeastGreen)
    ∷ (first_fault 18 (node 7 (three 8 2 15) ∷ node 21 [] ∷ []), Some StageOrder)
    ∷ []

-- the stage at a place, and what stands where there is none
abbrev pub stages_found : List (Stage × Stage)
stages_found =
    (stage_of (three 2 8 15) 1, record { change = 8; intergreen = 2; least = 4 })
    ∷ (stage_of (three 2 8 15) 3, record { change = 0; intergreen = 0; least = 0 })
    ∷ []
