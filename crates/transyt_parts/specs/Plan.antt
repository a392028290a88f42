-- The plan of a node: its stages in order round the cycle, each with room for its greens. Lengths are in steps.
use Rattle.std.specs.Prelude.{◌≡◌, ◌<◌, ◌≤◌, ℕ, ◌+◌, ◌==◌, Bool, not, nat_le, List, [], ◌∷◌, length, map, sum}
use Rattle.std.specs.Prelude.{slice_index_or, Option, Some, None, if◌then◌else◌}
use Rattle.std.specs.List.{list_all, range_with_len}
use Rattle.std.specs.Option.{option_or}
use Rattle.transyt_cycle.specs.Cycle.{minus_mod}
use Rattle.transyt_parts.specs.declared.stage_plan.PlanFault.{PlanFault}
use Rattle.transyt_parts.specs.declared.stage_plan.PlanFault.TheVariants.{FewStages, StageOrder, LeastGreen}
use Rattle.transyt_parts.specs.Parts.{NodeValue, Stage}

-- the stage at a place that has none
abbrev pub no_stage : Stage
no_stage = record { change = 0; intergreen = 0; least = 0 }

-- the stage at a place
abbrev pub stage_of : List Stage → ℕ → Stage
stage_of stages k = slice_index_or stages k no_stage

-- the place of the stage after a stage; the first follows the last
abbrev pub place_after : ℕ → ℕ → ℕ
place_after count k = if k + 1 == count then 0 else k + 1

-- the length of the stage at a place: from its change to that of the stage after it, round the cycle
abbrev pub length_at : ℕ → List Stage → ℕ → ℕ
length_at steps stages k =
    minus_mod steps (stage_of stages (place_after (length stages) k)).change (stage_of stages k).change

-- the lengths of the stages in order
abbrev pub stage_lengths : ℕ → List Stage → List ℕ
stage_lengths steps stages = map (length_at steps stages) (range_with_len 0 (length stages))

-- whether the stages come one after another within one cycle: their lengths add up to it
abbrev pub in_order : ℕ → List Stage → Bool
in_order steps stages = sum (stage_lengths steps stages) == steps

-- whether the stage at a place has room for its intergreen and its least green
abbrev pub has_green : ℕ → List Stage → ℕ → Bool
has_green steps stages k =
    nat_le ((stage_of stages k).intergreen + (stage_of stages k).least) (length_at steps stages k)

-- whether each stage has that room
abbrev pub have_greens : ℕ → List Stage → Bool
have_greens steps stages = list_all (has_green steps stages) (range_with_len 0 (length stages))

-- some stage is shorter than its intergreen and least green
abbrev pub LacksGreen : ℕ → List Stage → Type 0
LacksGreen steps stages =
    (k : ℕ) × (k < length stages)
    × (length_at steps stages k < (stage_of stages k).intergreen + (stage_of stages k).least)

-- The plan of a node: at least two stages, which come one after another within one cycle, each at least as long as its
-- intergreen and least green.
pub record IsPlanned (steps : ℕ) (stages : List Stage) : Type 0 where
  pub two : 2 ≤ length stages
  pub in_order : sum (stage_lengths steps stages) ≡ steps
  pub greens : (k : ℕ) → k < length stages
      → (stage_of stages k).intergreen + (stage_of stages k).least ≤ length_at steps stages k

-- the first fault of a node's plan: too few stages, their order, a stage too short
abbrev pub plan_fault : ℕ → List Stage → Option PlanFault
plan_fault steps stages =
    if not (nat_le 2 (length stages)) then Some FewStages
    else if not (in_order steps stages) then Some StageOrder
    else if not (have_greens steps stages) then Some LeastGreen
    else None

-- the first fault of the nodes in order
abbrev pub first_fault : ℕ → List NodeValue → Option PlanFault
first_fault steps [] = None
first_fault steps (n ∷ ns) = option_or (plan_fault steps n.stages) (first_fault steps ns)
