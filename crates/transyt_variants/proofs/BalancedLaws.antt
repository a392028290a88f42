-- The network with the changes of the balances is valid, and keeps the seconds of its steps.
use Rattle.std.proofs.Common.{◌≡◌, ℕ, ◌*◌, ◌/◌, ◌%◌, ◌<◌, List, map, length, get_or, None, refl, sym, ap, ◌∙◌, arith, subst}
use Rattle.std.proofs.lemmas.Bool.Decides.{nat_tests}
use Rattle.std.proofs.lemmas.List.FromFn.{length-map-range_with_len, get_or-map-range_with_len}
use Rattle.transyt_parts.specs.declared.node.Stage.{Stage}
use Rattle.transyt_parts.specs.Parts.{NodeValue}
use Rattle.transyt_parts.specs.Plan.{stage_of, no_stage, plan_fault}
use Rattle.transyt_parts.specs.Made.{bare_node}
use Rattle.transyt_parts.specs.Valid.{IsNode, IsStage}
use Rattle.transyt_net.specs.Parts.{Network, node_of, no_node, with_signals}
use Rattle.transyt_net.specs.Valid.{IsValid, node_numbers}
use Rattle.transyt_net.proofs.ShapeLaws.{same_numbers}
use Rattle.transyt_equisat.specs.declared.greens.Share.{Share}
use Rattle.transyt_equisat.specs.Peaks.{IsPlanOf}
use Rattle.transyt_equisat.specs.Balance.{balance, no_share, greens_at, least_peak, share_at}
use Rattle.transyt_equisat.proofs.PlanFits.{plan_parts}
use Rattle.transyt_equisat.proofs.WorthLaws.{balanced as is_balanced}
use Rattle.transyt_variants.specs.Cycles.{steps_of, bare_net, balanced_node, balanced}
use Rattle.transyt_variants.specs.Needs.{CanHave}
use Rattle.transyt_variants.specs.Kept.{KeepsSeconds}
use Rattle.transyt_variants.proofs.BareLaws.{change_small, plans_same, bare_valid}
use Rattle.transyt_variants.proofs.ValidLaws.{valid_nodes}
use Rattle.transyt_variants.proofs.StartLaws.{map_places, all_places}

-- a balanced node keeps to its ranges
balanced_is : (net : Network) (p : ℕ) → IsValid net → p < length net.nodes → IsNode net.frame.step_count (balanced_node net p)
balanced_is net p valid inside =
    let steps = net.frame.step_count in
    let n : NodeValue = node_of net p in
    let v = least_peak net n in
    let gs : List ℕ = greens_at net n v in
    let old : IsNode steps n = valid.sound.nodes p no_node inside in
    let two = (plan_parts steps n.stages (valid.planned p no_node inside)).0 in
    let zero_in : 0 < length n.stages = omega arith in
    let some : 0 < steps = omega (arith, valid.sound.frame.step_count.0) in
    let f : ℕ → Stage = λ k. record (stage_of n.stages k) { change = (get_or (balance net p).stages k no_share).change } in
    record {
      number = old.number;
      offset = old.offset;
      stage_count = omega (arith, length-map-range_with_len f 0 (length n.stages), old.stage_count);
      stages = all_places (IsStage steps) f (length n.stages) (λ k below.
          let is : IsStage steps (stage_of n.stages k) = old.stages k no_stage below in
          let at : get_or (balance net p).stages k no_share ≡ share_at net n v gs k =
          get_or-map-range_with_len (share_at net n v gs) 0 (length n.stages) k k no_share below (omega arith) in
          record {
            change = subst (λ (h : Share). h.change < steps) (sym at)
                (change_small steps n.stages gs k some (old.stages 0 no_stage zero_in).change);
            intergreen = is.intergreen;
            least = is.least;
          });
    }

-- a balanced node has an allowed plan
balanced_plan : (net : Network) (p : ℕ) → IsValid net → p < length net.nodes
    → IsPlanOf net.frame.step_count (node_of net p).stages (balanced_node net p).stages
balanced_plan net p valid inside = (is_balanced net p valid inside).allowed

-- the balanced nodes differ in their changes alone
balanced_same : (net : Network) → IsValid net → map bare_node (balanced net).nodes ≡ map bare_node net.nodes
balanced_same net valid =
    map_places bare_node (balanced_node net) net.nodes no_node (bare_node no_node) (λ k inside.
    ap (λ (ss : List Stage). record (node_of net k) { offset = 0; stages = ss }) (balanced_plan net k valid inside).same)

-- and have their numbers
pub balanced_numbers : (net : Network) → IsValid net → node_numbers (balanced net).nodes ≡ node_numbers net.nodes
balanced_numbers net valid = same_numbers (balanced net).nodes net.nodes (balanced_same net valid)

-- the balanced network is valid
pub balanced_valid : (net : Network) → IsValid net → IsValid (with_signals net net.frame (balanced net).nodes)
balanced_valid net valid =
    let steps = net.frame.step_count in
    valid_nodes net (balanced net).nodes valid (balanced_same net valid)
    (all_places (IsNode steps) (balanced_node net) (length net.nodes) (λ k inside. balanced_is net k valid inside))
    (all_places (λ (n : NodeValue). plan_fault steps n.stages ≡ None) (balanced_node net) (length net.nodes)
    (λ k inside. (balanced_plan net k valid inside).allowed))

-- a step is as many seconds long as before
seconds_kept : (n c cycle : ℕ) → 0 < c → n * cycle % c ≡ 0 → cycle * n ≡ c * (n * cycle / c)
seconds_kept n c cycle some whole = omega arith

-- the network of a cycle time keeps the seconds of its steps
pub plan_kept : (net : Network) (cycle : ℕ) → IsValid net → CanHave net cycle → KeepsSeconds net (balanced (bare_net net cycle))
plan_kept net cycle valid can =
    let bare = bare_net net cycle in
    let fine = bare_valid net cycle valid can in
    let some : 0 < net.frame.cycle = omega (arith, valid.sound.frame.cycle.0) in
    let whole : net.frame.step_count * cycle % net.frame.cycle ≡ 0 = grind (arith, nat_tests, can.whole) in
    record {
      valid = balanced_valid bare fine;
      seconds = seconds_kept net.frame.step_count net.frame.cycle cycle some whole;
      frame = refl;
      nodes = balanced_same bare fine ∙ plans_same net.frame.step_count (steps_of net cycle) net.nodes;
      links = refl;
      plan = refl;
    }

-- a balance has as many shares as its node has stages
pub balance_count : (net : Network) (p : ℕ) → length (balance net p).stages ≡ length (node_of net p).stages
balance_count net p =
    length-map-range_with_len (share_at net (node_of net p) (least_peak net (node_of net p)) (greens_at net (node_of net p)
    (least_peak net (node_of net p)))) 0 (length (node_of net p).stages)
