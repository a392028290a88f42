-- No allowed plan has a lower peak than the balance of a node, and any least peak gives the same answer.
use Rattle.std.proofs.Common.{◌≡◌, ℕ, ◌<◌, List, map, length, sum}
use Rattle.std.proofs.Common.{sym, ◌∙◌, ap, refl, arith, get_or, mul-pos}
use Rattle.std.specs.List.{range_with_len}
use Rattle.std.proofs.lemmas.List.{length-map, get_or-map}
use Rattle.std.proofs.lemmas.Simd.{map-map}
use Rattle.std.proofs.lemmas.List.FromFn.{fill_by_all, length-map-range_with_len, get_or-map-range_with_len}
use Rattle.transyt_parts.specs.Parts.{NodeValue}
use Rattle.transyt_parts.specs.declared.node.Stage.{Stage}
use Rattle.transyt_parts.specs.Plan.{stage_of, no_stage}
use Rattle.transyt_parts.specs.Made.{bare_stage}
use Rattle.transyt_net.specs.Parts.{Network, node_of}
use Rattle.transyt_net.specs.Valid.{IsValid}
use Rattle.transyt_equisat.specs.declared.fraction.Fraction.{Fraction}
use Rattle.transyt_equisat.specs.declared.greens.Share.{Share}
use Rattle.transyt_equisat.specs.Degrees.{IsSame}
use Rattle.transyt_equisat.specs.Peaks.{peak, greens_of}
use Rattle.transyt_equisat.specs.Balance.{greens_at, share_at, balance_at, balance, least_peak, timed, no_share}
use Rattle.transyt_equisat.specs.Balance.{peak_told, IsBalanced}
use Rattle.transyt_equisat.specs.Sharing.{asked_of, IsLeastPeak}
use Rattle.transyt_equisat.proofs.FractionLaws.{at_most, at_most-trans, same-trans}
use Rattle.transyt_equisat.proofs.PlanFits.{plan_fits}
use Rattle.transyt_equisat.proofs.TimedPlans.{AreTimed, timed_greens, timed_allowed}
use Rattle.transyt_equisat.proofs.LeastLaws.{least_is_least, least_same}
use Rattle.transyt_equisat.proofs.AlikeLaws.{one_answer}
use Rattle.transyt_equisat.proofs.SettingLaws.{IsSetting, setting_of}
use Rattle.transyt_equisat.proofs.GreensLaws.{greens_hold, greens_peak, peak_least, told, needs_exceed}

-- the shares of the answer
abbrev shares : Network → NodeValue → Fraction → List Share
shares net n v = map (share_at net n v (greens_at net n v)) (range_with_len 0 (length n.stages))

-- the stages at the answer's changes
are_timed : (net : Network) (n : NodeValue) (v : Fraction)
    → AreTimed net.frame.step_count n.stages (greens_at net n v) (timed n.stages (shares net n v))
are_timed net n v =
    let f : ℕ → Stage = λ k. record (stage_of n.stages k) { change = (get_or (shares net n v) k no_share).change } in
    let places = length n.stages in
    record {
      count = length-map-range_with_len f 0 places;
      each = λ k inside.
          get_or-map-range_with_len f 0 places k k no_stage inside (omega arith)
          ∙ ap (λ (h : Share). record (stage_of n.stages k) { change = h.change })
          (get_or-map-range_with_len (share_at net n v (greens_at net n v)) 0 places k k no_share inside (omega arith));
    }

timed_same : (stages : List Stage) (hs : List Share) → map bare_stage (timed stages hs) ≡ map bare_stage stages
timed_same stages hs =
    map-map bare_stage (λ k. record (stage_of stages k) { change = (get_or hs k no_share).change }) (range_with_len 0 (length stages))
    ∙ sym (fill_by_all (λ k. bare_stage (stage_of stages k)) (map bare_stage stages) (length stages) no_stage
    (length-map stages bare_stage) (λ k inside. get_or-map bare_stage stages k no_stage no_stage inside))

top_above : (a b : Fraction) → IsSame a b → 0 < b.base → 0 < a.top → 0 < b.top
top_above a b same base above = grind (arith, mul-pos above base)

-- the answer for a least peak is worth what is said
pub balanced_at : (net : Network) (n : NodeValue) (v : Fraction) → IsSetting net n
    → IsLeastPeak (asked_of net n) v
    → IsBalanced net n (balance_at net n v)
balanced_at net n v setting peak_is =
    let steps = net.frame.step_count in
    let gs : List ℕ = greens_at net n v in
    let plan : List Stage = timed n.stages (shares net n v) in
    let fits = (greens_hold net n v setting peak_is).0 in
    let is : AreTimed steps n.stages gs plan = are_timed net n v in
    let greens = timed_greens steps n.stages gs plan is fits setting.stages.0 setting.change setting.least in
    let top : Fraction = peak_told (balance_at net n v) in
    let said : IsSame top v = told net n v setting peak_is in
    let ranged = range_with_len 0 (length n.stages) in
    record {
      allowed = timed_allowed steps n.stages gs plan is fits setting.stages.0 setting.change setting.least
          (timed_same n.stages (shares net n v));
      greens = greens ∙ fill_by_all (λ k. get_or gs k 0) gs (length n.stages) 0 fits.count (λ k below. refl)
          ∙ sym (map-map (λ (h : Share). h.green) (share_at net n v gs) ranged);
      attained = rw greens (same-trans top v (peak net n.number gs) peak_is.base said (greens_peak net n v setting peak_is));
      least = λ other allowed.
          let es : List ℕ = greens_of steps other in
          at_most-trans top v (peak net n.number es) peak_is.base (omega (arith, said))
          (at_most v (peak net n.number es) (peak_least net n v setting peak_is es (plan_fits steps n.stages other allowed)));
      certificate = λ above.
          let needs = ap sum (map-map (λ (h : Share). h.need) (share_at net n v gs) ranged) in
          omega (arith, needs, needs_exceed net n v setting peak_is (top_above top v said peak_is.base above));
    }

-- the balance is worth what is said
pub balanced : (net : Network) (p : ℕ) → IsValid net → p < length net.nodes → IsBalanced net (node_of net p) (balance net p)
balanced net p valid inside =
    let setting = setting_of net p valid inside in
    balanced_at net (node_of net p) (least_peak net (node_of net p)) setting (least_is_least net (node_of net p) setting)

-- and any least peak has this answer
pub balance_by : (net : Network) (p : ℕ) (v : Fraction) → IsValid net → p < length net.nodes
    → IsLeastPeak (asked_of net (node_of net p)) v → balance_at net (node_of net p) v ≡ balance net p
balance_by net p v valid inside peak_is =
    let n : NodeValue = node_of net p in
    let least = least_is_least net n (setting_of net p valid inside) in
    one_answer net n v (least_peak net n) (least_same (asked_of net n) v (least_peak net n) peak_is least) peak_is.base least.base
