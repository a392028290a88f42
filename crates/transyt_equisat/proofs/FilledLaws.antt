-- Greens with what is left of the cycle given to the first stage.
use Rattle.std.proofs.Common.{◌≡◌, ℕ, ◌+◌, ◌-◌, ◌<◌, ◌≤◌, Bool, ◌&&◌, List, [], ◌∷◌, All, length, sum}
use Rattle.std.proofs.Common.{sym, subst, arith, get_or, fold, mul-pos}
use Rattle.std.proofs.lemmas.Bool.{cond_both}
use Rattle.std.proofs.lemmas.List.{length-set}
use Rattle.std.proofs.lemmas.List.Sums.{sum_by-set}
use Rattle.std.proofs.lemmas.List.Elements.{All-head, All-tail}
use Rattle.transyt_parts.specs.Parts.{NodeValue, LinkValue}
use Rattle.transyt_parts.specs.declared.node.Stage.{Stage}
use Rattle.transyt_parts.specs.Plan.{stage_of}
use Rattle.transyt_net.specs.Parts.{Network}
use Rattle.transyt_equisat.specs.declared.fraction.Fraction.{Fraction}
use Rattle.transyt_equisat.specs.declared.demand.Demand.{Demand}
use Rattle.transyt_equisat.specs.Degrees.{counts_in}
use Rattle.transyt_equisat.specs.Sharing.{heavier, heavier_of, demand_of, demands_of, no_demand, asked_of, degree_at}
use Rattle.transyt_equisat.specs.Peaks.{Fits, intergreens}
use Rattle.transyt_equisat.specs.Balance.{first_more}
use Rattle.transyt_equisat.proofs.SettingLaws.{IsSetting}
use Rattle.transyt_equisat.proofs.FractionLaws.{degree_falls}
use Rattle.transyt_equisat.proofs.DemandLaws.{IsLower, demand_there}
use Rattle.transyt_equisat.proofs.SharingLaws.{more_least}
use Rattle.transyt_equisat.proofs.PeakLaws.{StagesPass}
use Rattle.transyt_equisat.proofs.AskedLaws.{first_greens, first_parts, first_count, ArePassing}

-- greens with what is left of the cycle given to the first fill it
pub filled : (steps : ℕ) (stages : List Stage) (es : List ℕ) → length es ≡ length stages → 0 < length stages
    → ((k : ℕ) → k < length stages → (stage_of stages k).least ≤ get_or es k 0)
    → sum es + intergreens stages ≤ steps
    → Fits steps stages (first_more (steps - (sum es + intergreens stages)) es)
filled steps stages es count some least room =
    let left : ℕ = steps - (sum es + intergreens stages) in
    record {
      count = omega (arith, length-set es 0 (get_or es 0 0 + left));
      least = λ k below. omega (arith, least k below, more_least es 0 left k (omega arith));
      fills = omega (arith, sum_by-set (λ n. n) es 0 (get_or es 0 0 + left) 0 (omega arith));
    }

-- the greatest demand has a saturation flow
fold_live : (number stage : ℕ) (ls : List LinkValue) (d : Demand) → All (λ l. 0 < l.saturation) ls → 0 < d.saturation
    → 0 < (fold (heavier_of number stage) d ls).saturation
fold_live number stage [] d live alive = alive
fold_live number stage (l ∷ ls) d live alive =
    fold_live number stage ls (heavier_of number stage d l) (All-tail (λ l. 0 < l.saturation) l ls live)
    (cond_both (counts_in number stage l && heavier (demand_of l) d) (demand_of l) d (λ f. 0 < f.saturation)
    (λ heavy. All-head (λ l. 0 < l.saturation) l ls live) (λ light. alive))

-- the demand of a stage has a saturation flow
pub demand_live : (net : Network) (n : NodeValue) (k : ℕ) → IsSetting net n → k < length n.stages
    → 0 < (get_or (demands_of net n.number (length n.stages)) k no_demand).saturation
demand_live net n k setting inside =
    subst (λ (d : Demand). 0 < d.saturation) (sym (demand_there net n k inside))
    (fold_live n.number (k + 1) net.links no_demand setting.live (omega arith))

-- the first greens that pass a lower test: with what is left of the cycle for the first they fill it, and each stage
-- still passes
pub filled_passes : (net : Network) (n : NodeValue) → IsSetting net n → {test : Fraction → Bool} → IsLower test → (e : ℕ → ℕ)
    → ArePassing test net n e → sum (first_greens net n test) + intergreens n.stages ≤ net.frame.step_count
    → Fits net.frame.step_count n.stages
    (first_more (net.frame.step_count - (sum (first_greens net n test) + intergreens n.stages)) (first_greens net n test))
    × StagesPass test net n
    (first_more (net.frame.step_count - (sum (first_greens net n test) + intergreens n.stages)) (first_greens net n test))
filled_passes net n setting {test} lower e pass room =
    let es : List ℕ = first_greens net n test in
    let left : ℕ = net.frame.step_count - (sum es + intergreens n.stages) in
    let gs : List ℕ = first_more left es in
    let count : length es ≡ length n.stages = first_count net n test in
    let parts = first_parts net n setting lower e pass in (
      filled net.frame.step_count n.stages es count (omega (arith, setting.stages.0)) (λ k inside. (parts k inside).0) room,
      λ k inside.
          let (low, high, passes) = parts k inside in
          let more = more_least es 0 left k (omega (arith, count, setting.stages.0)) in
          let live = demand_live net n k setting inside in
          let some : 0 < get_or es k 0 = omega (arith, low, setting.least k inside) in
          lower.lesser (degree_at (asked_of net n) gs k) (degree_at (asked_of net n) es k)
          (mul-pos {n = get_or gs k 0} live (omega (arith, more))) (mul-pos live some)
          (degree_falls net.frame.step_count (get_or (asked_of net n).demands k no_demand) (get_or es k 0) (get_or gs k 0) more) passes,
    )
