-- Each fault of a plan, as a fact about its stages.
use Rattle.std.proofs.Common.{◌≡◌, ◌≢◌, ◌↔◌, ℕ, ◌+◌, ◌<◌, ◌≤◌, true, false, List, length, sum, None, Some, arith}
use Rattle.std.proofs.lemmas.Bool.{leb-true, leb-false, le-leb, lt-leb}
use Rattle.std.proofs.lemmas.Bool.Decides.{nat_tests}
use Rattle.transyt_parts.specs.declared.node.Stage.{Stage}
use Rattle.transyt_parts.specs.declared.stage_plan.PlanFault.TheVariants.{FewStages, StageOrder, LeastGreen}
use Rattle.transyt_parts.specs.Plan.{stage_of, length_at, stage_lengths, has_green, have_greens, plan_fault}
use Rattle.transyt_parts.specs.Plan.{IsPlanned, LacksGreen}
use Rattle.transyt_parts.proofs.BelowLaws.{all_below, each_below, lacks_below, not_all_places}

module _ (steps : ℕ) (stages : List Stage) where
  -- no fault: the plan is as it must be
  pub planned : plan_fault steps stages ≡ None ↔ IsPlanned steps stages
  planned = (
    (λ h.
        let all : have_greens steps stages ≡ true = grind (arith, nat_tests) in
        record {
          two = grind (arith, nat_tests);
          in_order = grind (arith, nat_tests);
          greens = λ k inside.
              leb-true ((stage_of stages k).intergreen + (stage_of stages k).least) (length_at steps stages k)
              (all_below (has_green steps stages) (length stages) all k inside);
        }),
    (λ p.
        let two = p.two in
        let order = p.in_order in
        let greens : have_greens steps stages ≡ true =
        each_below (has_green steps stages) (length stages)
        (λ k inside. le-leb ((stage_of stages k).intergreen + (stage_of stages k).least) (length_at steps stages k)
        (p.greens k inside)) in
        grind (arith, nat_tests)),
  )

  -- too few stages
  pub few : plan_fault steps stages ≡ Some FewStages ↔ length stages < 2
  few = ((λ h. grind (arith, nat_tests)), (λ less. grind (arith, nat_tests)))

  -- enough of them, which don't go round just once
  pub unordered : plan_fault steps stages ≡ Some StageOrder
      ↔ (2 ≤ length stages) × (sum (stage_lengths steps stages) ≢ steps)
  unordered = ((λ h. grind (arith, nat_tests)), (λ p. grind (arith, nat_tests)))

  -- stages in order, one of which is too short
  pub short : plan_fault steps stages ≡ Some LeastGreen
      ↔ (2 ≤ length stages) × (sum (stage_lengths steps stages) ≡ steps) × LacksGreen steps stages
  short = (
    (λ h.
        let lacks : have_greens steps stages ≡ false = grind (arith, nat_tests) in
        let two : 2 ≤ length stages = grind (arith, nat_tests) in
        let order : sum (stage_lengths steps stages) ≡ steps = grind (arith, nat_tests) in
        let found = lacks_below (has_green steps stages) (length stages) lacks in
        let k : ℕ = found.0 in
        let less = leb-false ((stage_of stages k).intergreen + (stage_of stages k).least) (length_at steps stages k) found.2 in
        (two, order, (k, found.1, less))),
    (λ p.
        let k : ℕ = p.2.0 in
        let two = p.0 in
        let order = p.1 in
        let greens : have_greens steps stages ≡ false =
        not_all_places (has_green steps stages) (length stages) k p.2.1
        (lt-leb ((stage_of stages k).intergreen + (stage_of stages k).least) (length_at steps stages k) p.2.2) in
        grind (arith, nat_tests)),
  )
