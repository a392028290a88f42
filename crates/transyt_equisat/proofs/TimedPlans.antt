-- Greens that fill the cycle are those of an allowed plan: its changes come one length after another.
use Rattle.std.proofs.Common.{◌≡◌, ℕ, zero, suc, ◌+◌, ◌%◌, ◌<◌, ◌≤◌, List, map, length, sum, get_or}
use Rattle.std.proofs.Common.{sym, ◌∙◌, ap, arith, take}
use Rattle.std.proofs.lemmas.Bool.Decides.{nat_tests}
use Rattle.std.proofs.lemmas.List.{take_all}
use Rattle.std.proofs.lemmas.List.Sums.{sum_by_more}
use Rattle.std.proofs.lemmas.List.FromFn.{fill_by_all}
use Rattle.std.proofs.Math.Nat.{mod-add-mod, add-mod_right, mod-eq_of_lt}
use Rattle.transyt_cycle.proofs.CycleLaws.{minus_mod-of_add}
use Rattle.transyt_parts.specs.declared.node.Stage.{Stage}
use Rattle.transyt_parts.specs.Made.{bare_stage}
use Rattle.transyt_parts.specs.Plan.{stage_of, no_stage, length_at, place_after, IsPlanned}
use Rattle.transyt_parts.proofs.PlanFacts.{planned}
use Rattle.transyt_equisat.specs.Peaks.{Fits, intergreens, greens_of, IsPlanOf}
use Rattle.transyt_equisat.specs.Balance.{change_at}
use Rattle.transyt_equisat.proofs.PlanFits.{green_at, lengths_sum, same_gaps, one_shorter}

-- the change of the stage at a place: as many steps behind the first as the stages before it take
pub change_sum : (steps : ℕ) (stages : List Stage) (gs : List ℕ) (k : ℕ) → length gs ≡ length stages
    → (stage_of stages 0).change < steps → k ≤ length stages
    → change_at steps stages gs k ≡ ((stage_of stages 0).change + (sum (take k gs) + intergreens (take k stages))) % steps
change_sum steps stages gs zero count first inside =
    let none : (stage_of stages 0).change + (sum (take 0 gs) + intergreens (take 0 stages)) ≡ (stage_of stages 0).change = omega arith in
    sym (ap (λ n. n % steps) none ∙ mod-eq_of_lt first)
change_sum steps stages gs (suc k) count first inside =
    let c : ℕ = (stage_of stages 0).change in
    let before : ℕ = c + (sum (take k gs) + intergreens (take k stages)) in
    let here = change_sum steps stages gs k count first (omega arith) in
    let next : suc k ≡ k + 1 = omega arith in
    let greens = ap (λ m. sum (take m gs)) next ∙ sum_by_more (λ x. x) gs k 0 (omega arith) in
    let gaps = ap (λ m. intergreens (take m stages)) next ∙ sum_by_more (λ (s : Stage). s.intergreen) stages k no_stage (omega arith) in
    let split : (before % steps + get_or gs k 0 + (stage_of stages k).intergreen)
    ≡ before % steps + (get_or gs k 0 + (stage_of stages k).intergreen) = omega arith in
    let all : before + (get_or gs k 0 + (stage_of stages k).intergreen)
    ≡ c + (sum (take (suc k) gs) + intergreens (take (suc k) stages)) = omega (arith, greens, gaps) in
    rw (here, split) (mod-add-mod before steps (get_or gs k 0 + (stage_of stages k).intergreen) ∙ ap (λ n. n % steps) all)

-- behind the last stage stands the change of the first
change_round : (steps : ℕ) (stages : List Stage) (gs : List ℕ) → Fits steps stages gs
    → (stage_of stages 0).change < steps → change_at steps stages gs (length stages) ≡ (stage_of stages 0).change
change_round steps stages gs fits first =
    let c : ℕ = (stage_of stages 0).change in
    let greens = ap sum (take_all (length stages) gs (omega (arith, fits.count))) in
    let gaps = ap intergreens (take_all (length stages) stages (omega arith)) in
    let total : c + (sum (take (length stages) gs) + intergreens (take (length stages) stages)) ≡ c + steps =
    omega (arith, greens, gaps, fits.fills) in
    change_sum steps stages gs (length stages) fits.count first (omega arith)
    ∙ ap (λ n. n % steps) total ∙ add-mod_right c steps ∙ mod-eq_of_lt first

-- the change of the stage after a stage
pub change_after : (steps : ℕ) (stages : List Stage) (gs : List ℕ) (k : ℕ) → Fits steps stages gs
    → (stage_of stages 0).change < steps → k < length stages
    → change_at steps stages gs (place_after (length stages) k) ≡ change_at steps stages gs (k + 1)
change_after steps stages gs k fits first inside = grind (arith, nat_tests, change_round steps stages gs fits first)

-- stages whose changes are those of greens
pub record AreTimed (steps : ℕ) (stages : List Stage) (gs : List ℕ) (plan : List Stage) : Type 0 where
  pub count : length plan ≡ length stages
  pub each : (k : ℕ) → k < length stages
      → stage_of plan k ≡ record (stage_of stages k) { change = change_at steps stages gs k }

module _ (steps : ℕ) (stages : List Stage) (gs : List ℕ) (plan : List Stage) (timed : AreTimed steps stages gs plan)
    (fits : Fits steps stages gs) (two : 2 ≤ length stages) (first : (stage_of stages 0).change < steps)
    (some : (j : ℕ) → j < length stages → 0 < (stage_of stages j).least) where
  -- the length of a stage of such a plan
  timed_length : (k : ℕ) → k < length stages → length_at steps plan k ≡ get_or gs k 0 + (stage_of stages k).intergreen
  timed_length k inside =
      let len : ℕ = get_or gs k 0 + (stage_of stages k).intergreen in
      let to = ap (λ (s : Stage). s.change) (timed.each (place_after (length stages) k) (grind (arith, nat_tests)))
      ∙ change_after steps stages gs k fits first inside in
      let from = ap (λ (s : Stage). s.change) (timed.each k inside) in
      let suc_k : k + 1 ≡ suc k = omega arith in
      let split : (change_at steps stages gs k + get_or gs k 0 + (stage_of stages k).intergreen)
      ≡ len + change_at steps stages gs k = omega arith in
      rw (timed.count, to, from, suc_k, split)
      (minus_mod-of_add steps len (change_at steps stages gs k) (one_shorter steps stages gs k fits two some inside))

  -- such a plan has these greens
  pub timed_greens : greens_of steps plan ≡ gs
  timed_greens =
      sym (fill_by_all (green_at steps plan) gs (length plan) 0 (omega (arith, fits.count, timed.count)) (
      λ k below.
      let inside : k < length stages = omega (arith, timed.count) in
      omega (arith, timed_length k inside, ap (λ (s : Stage). s.intergreen) (timed.each k inside))
      ))

  -- and is allowed
  pub timed_allowed : map bare_stage plan ≡ map bare_stage stages → IsPlanOf steps stages plan
  timed_allowed same =
      let room : (k : ℕ) → k < length plan → (stage_of plan k).intergreen + (stage_of plan k).least ≤ length_at steps plan k =
      λ k below.
      let inside : k < length stages = omega (arith, timed.count) in
      let gap = ap (λ (s : Stage). s.intergreen) (timed.each k inside) in
      let low = ap (λ (s : Stage). s.least) (timed.each k inside) in
      omega (arith, timed_length k inside, gap, low, fits.least k inside) in
      let total = lengths_sum steps plan (λ k inside. omega (arith, room k inside)) in
      let is : IsPlanned steps plan = record {
        two = omega (arith, timed.count);
        in_order = omega (arith, total, ap sum timed_greens, same_gaps plan stages same, fits.fills);
        greens = room;
      } in
      record { same = same; allowed = (planned steps plan).1 is }
