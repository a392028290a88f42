-- The worked climbs, one after another.
use Rattle.std.proofs.Common.{◌≡◌, ℕ, true, false, None, Some, refl, arith}
use Rattle.std.proofs.lemmas.List.Elements.{All-head}
use Rattle.transyt_parts.specs.Parts.{NodeValue}
use Rattle.transyt_parts.specs.declared.stage_plan.PlanFault.TheVariants as fault
use Rattle.transyt_parts.specs.Plan.{plan_fault}
use Rattle.transyt_net.specs.declared.edit.EditFault.TheVariants.{LeastGreen}
use Rattle.transyt_net.specs.Edits.{with_edit}
use Rattle.transyt_climb.specs.WorkedTurns.{idle, by_last}
use Rattle.transyt_climb.proofs.WorkedLaws as turns
use Rattle.transyt_line_answers.specs.Report.{InSession}
use Rattle.transyt_line_answers.specs.Steps.{IsLowering}
use Rattle.transyt_line_answers.specs.WorkedLowering.{earlier}
use Rattle.transyt_line_answers.proofs.WorkedLowering.{two_lead, other_last, stays_between}
use Rattle.transyt.specs.Reports.{ClimbDescends, Descends}
use Rattle.transyt.specs.WorkedClimbs.{by_two, to_first, by_three, at_once, barred, short_node, unplanned, earlier_there}

-- by two steps, each of which lowers the index
pub two_descend : Descends by_last 7 by_two
two_descend = record { steps = two_lead; local = λ is. absurd (cc); spent = λ is. refl }

pub first_last : Descends by_last 7 to_first → ⊥
first_last down = other_last down.steps

pub stays_then : Descends by_last 7 by_three → ⊥
stays_then down = stays_between _ down.steps

pub two_of_eight : Descends by_last 8 by_two → ⊥
two_of_eight down = let spent : 7 ≡ 8 = down.spent refl in absurd (omega (arith, spent))

-- without a step, where no move lowers the index, and where one does
pub idle_local : Descends idle 7 (at_once idle 6)
idle_local = record { steps = refl; local = λ is. turns.local; spent = λ is. absurd (cc) }

pub last_lowers : Descends by_last 7 (at_once by_last 7) → ⊥
last_lowers down = turns.not_local (down.local refl)

-- a move that is barred is no step
pub barred_move : IsLowering barred earlier → ⊥
barred_move step = let short : Some LeastGreen ≡ None = step.allowed in absurd (cc)

-- neither is one that leaves a plan that isn't allowed
pub not_planned : IsLowering unplanned earlier_there → ⊥
not_planned step =
    let short : Some fault.LeastGreen ≡ None =
    All-head (λ (n : NodeValue). plan_fault 10 n.stages ≡ None) short_node (with_edit by_last earlier.edit).nodes
    step.planned in absurd (cc)

-- in a session, whose plan has a budget of seven looks
pub session_descends : (work : ℕ)
    → ClimbDescends (λ net. by_two) (InSession (record { net = by_last; before = Some idle; work = work }))
session_descends work = two_descend

pub session_lowers : (work : ℕ)
    → ClimbDescends (λ net. at_once net 7) (InSession (record { net = by_last; before = Some idle; work = work })) → ⊥
session_lowers work down = last_lowers down
