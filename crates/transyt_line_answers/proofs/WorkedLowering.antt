-- The clauses on the worked steps and plans, number by number.
use Rattle.std.proofs.Common.{◌≡◌, ℕ, ◌<◌, List, [], ◌∷◌, None, Some, sum, lit<, lit≤, refl, sym, ◌∙◌, ap, subst, arith}
use Rattle.std.specs.List.{All}
use Rattle.std.proofs.lemmas.List.Elements.{All-from_recursion, All-head}
use Rattle.transyt_profile.specs.Platoon.{smoothed}
use Rattle.transyt_profile.specs.StopLine.{sum_back, greatest}
use Rattle.transyt_parts.specs.Parts.{NodeValue}
use Rattle.transyt_parts.specs.declared.stage_plan.PlanFault.TheVariants.{LeastGreen}
use Rattle.transyt_parts.specs.Plan.{plan_fault, stage_of}
use Rattle.transyt_net.specs.declared.edit.Edit.{Edit}
use Rattle.transyt_net.specs.declared.edit.Edit.TheVariants.{Offset}
use Rattle.transyt_net.specs.Edits.{with_edit}
use Rattle.transyt_net.specs.Parts.{Network}
use Rattle.transyt_moves.specs.Moves.{move, move_count}
use Rattle.transyt_stage.specs.ThreeJunctions.{three_junctions}
use Rattle.transyt_sweep.specs.Climb.{Step}
use Rattle.transyt_sweep.specs.Sweeps.{seen, out_of, evaluated, index}
use Rattle.transyt_sweep.specs.WorkedLinks.{new_figures}
use Rattle.transyt_sweep.proofs.WorkedFigures.{figures_by_root, index_comes_out}
use Rattle.transyt_line_answers.specs.Steps.{ArePlanned, IsLowering, LeadDown}
use Rattle.transyt_climb.specs.WorkedTurns.{idle, by_last}
use Rattle.transyt_climb.proofs.WorkedLaws.{after_last, index_after, index_before, index_last, its_terms}
use Rattle.transyt_line_answers.specs.WorkedLowering.{first_step, wrong_steps, idle_step, late_node, late_stage}
use Rattle.transyt_line_answers.specs.WorkedLowering.{earlier, earlier_again, after_two, stays}

-- nodes whose plans are allowed
abbrev HasNoFault : NodeValue → Type 0
HasNoFault n = plan_fault 18 n.stages ≡ None

-- the second stage is too short: it has no more than a step up to the change of the first
pub late : ArePlanned late_stage → ⊥
late h =
    let fault : Some LeastGreen ≡ None =
    All-head (λ (n : NodeValue). plan_fault 15 n.stages ≡ None) late_node [] h in absurd (cc)

-- the first step of a climb
pub is_lowering : IsLowering three_junctions first_step
unfolding move move_count
is_lowering = record {
  listed = lit< tt;
  edit_is = refl;
  allowed = refl;
  index_is = sym index_after;
  lower = subst (λ (x : ℕ). 554272112 < x) (sym index_comes_out) (lit< tt);
  planned = All-from_recursion HasNoFault (with_edit three_junctions (Offset 21 8)).nodes (refl, (refl, (refl, tt)));
}

-- an offset, or 0 for another edit
abbrev offset_of : Edit → ℕ
offset_of (Offset node offset) = offset
offset_of e = 0

other_edit : IsLowering three_junctions (record first_step { edit = Offset 21 9 }) → ⊥
unfolding move
other_edit h = let wrong : 9 ≡ 8 = ap offset_of h.edit_is in absurd (omega (arith, wrong))

other_index : IsLowering three_junctions (record first_step { index = 554272111 }) → ⊥
other_index h = let wrong : 554272111 ≡ 554272112 = h.index_is ∙ index_after in absurd (omega (arith, wrong))

pub none_is_lowering : All (λ (step : Step). IsLowering three_junctions step → ⊥) wrong_steps
none_is_lowering =
    All-from_recursion (λ (step : Step). IsLowering three_junctions step → ⊥) wrong_steps
    (other_edit, (other_index, tt))

-- 0 is not below 0
pub not_lower : IsLowering idle idle_step → ⊥
not_lower step = let lower : 0 < 0 = step.lower in absurd (omega (arith, lower))

-- the figures and the index after both of the two steps
figures_two : (evaluated after_two 0).figures ≡ new_figures 213498 48236 10166 805534
unfolding sum_back greatest smoothed seen out_of evaluated
figures_two = figures_by_root (its_terms 1016660 11553332 2134986 609996) 632393266 (lit≤ tt) (lit< tt)

index_two : index after_two ≡ 805534
index_two = λ j. sum ((figures_two j).index ∷ [])

-- nodes whose plans are allowed in a cycle of ten steps
abbrev HasNoFaultOfTen : NodeValue → Type 0
HasNoFaultOfTen n = plan_fault 10 n.stages ≡ None

-- each of the two steps
step_one : IsLowering by_last earlier
unfolding move move_count
step_one = record {
  listed = lit< tt;
  edit_is = refl;
  allowed = refl;
  index_is = sym index_last;
  lower = subst (λ (x : ℕ). 1077043 < x) (sym index_before) (lit< tt);
  planned = All-from_recursion HasNoFaultOfTen after_last.nodes (refl, tt);
}

step_two : IsLowering after_last earlier_again
unfolding move move_count
step_two = record {
  listed = lit< tt;
  edit_is = refl;
  allowed = refl;
  index_is = sym index_two;
  lower = subst (λ (x : ℕ). 805534 < x) (sym index_last) (lit< tt);
  planned = All-from_recursion HasNoFaultOfTen after_two.nodes (refl, tt);
}

-- the two lead down to the network after both
pub two_lead : LeadDown by_last (earlier ∷ earlier_again ∷ []) after_two
two_lead = (step_one, (step_two, refl))

-- the last change of the first node
abbrev last_change : List NodeValue → ℕ
last_change [] = 0
last_change (n ∷ ns) = (stage_of n.stages 2).change

-- and to none of the networks before
pub other_last : LeadDown by_last (earlier ∷ earlier_again ∷ []) after_last → ⊥
other_last led =
    let wrong : 8 ≡ 7 = ap (λ (net : Network). last_change net.nodes) led.1.1 in absurd (omega (arith, wrong))

pub no_step : LeadDown by_last [] after_last → ⊥
no_step led =
    let wrong : 8 ≡ 9 = ap (λ (net : Network). last_change net.nodes) led in absurd (omega (arith, wrong))

-- with a step between them that leaves the index as it was they lead to none
pub stays_between : (last : Network) → LeadDown by_last (earlier ∷ stays ∷ earlier_again ∷ []) last → ⊥
stays_between last led =
    let lower : 1077043 < 1077043 = subst (λ (x : ℕ). 1077043 < x) index_last led.1.0.lower in
    absurd (omega (arith, lower))
