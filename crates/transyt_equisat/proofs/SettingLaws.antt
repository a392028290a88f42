-- A valid network meets the conditions of a node's balance.
use Rattle.std.proofs.Common.{◌≡◌, ℕ, ◌<◌, ◌≤◌, All, nat_eq, length, get_or, ap, refl, arith, eqb-true}
use Rattle.std.proofs.lemmas.Bool.{and_parts}
use Rattle.std.proofs.lemmas.List.{length-map, get_or-map}
use Rattle.transyt_parts.specs.Parts.{NodeValue, LinkValue}
use Rattle.transyt_parts.specs.Plan.{stage_of, no_stage, IsPlanned}
use Rattle.transyt_parts.specs.Valid.{node_number, IsNode}
use Rattle.transyt_parts.proofs.PlanFacts.{planned}
use Rattle.transyt_net.specs.Parts.{Network, node_of, no_node}
use Rattle.transyt_net.specs.Valid.{IsValid, IsLink, stages_at, stage_total, node_numbers, link_numbers}
use Rattle.transyt_net.proofs.OrderLaws.{place_alone}
use Rattle.transyt_net.proofs.PlaceLaws.{numbered_here, place_is}
use Rattle.transyt_equisat.specs.Peaks.{Fits, greens_of}
use Rattle.transyt_equisat.specs.Sharing.{AreWithin}
use Rattle.transyt_equisat.proofs.PlanFits.{plan_fits}

-- the conditions of a node's balance in a valid network
pub record IsSetting (net : Network) (n : NodeValue) : Type 0 where
  pub steps : (0 < net.frame.step_count) × (net.frame.step_count ≤ 120)
  pub stages : (2 ≤ length n.stages) × (length n.stages ≤ 8)
  pub change : (stage_of n.stages 0).change < net.frame.step_count
  pub least : (k : ℕ) → k < length n.stages → 0 < (stage_of n.stages k).least
  pub live : All (λ l. 0 < l.saturation) net.links
  pub within : AreWithin n.number (length n.stages) net.links
  pub own : Fits net.frame.step_count n.stages (greens_of net.frame.step_count n.stages)

-- a valid network gives a node all that its balance stands on
pub setting_of : (net : Network) (p : ℕ) → IsValid net → p < length net.nodes → IsSetting net (node_of net p)
setting_of net p valid inside =
    let steps = net.frame.step_count in
    let n : NodeValue = node_of net p in
    let node : IsNode steps n = valid.sound.nodes p no_node inside in
    let no_fault = valid.planned p no_node inside in
    let plan : IsPlanned steps n.stages = (planned steps n.stages).0 no_fault in
    let place =
    place_alone (node_numbers net.nodes) n.number p valid.sound.nodes_differ (omega (arith, length-map net.nodes node_number, inside))
    (get_or-map node_number net.nodes p no_node 0 inside) in
    let total : stages_at net.nodes n.number ≡ length n.stages =
    ap stage_total (numbered_here node_number net.nodes n.number p no_node (place_is node_number net.nodes n.number p place)) in
    record {
      steps = (omega (arith, valid.sound.frame.step_count), omega (arith, valid.sound.frame.step_count));
      stages = (plan.two, node.stage_count);
      change = (node.stages 0 no_stage (omega (arith, plan.two))).change;
      least = λ k below. (node.stages k no_stage below).least.0;
      live = λ i d below.
          let is : IsLink steps net.nodes (link_numbers net.links) (get_or net.links i d) = valid.sound.links i d below in
          omega (arith, is.saturation);
      within = λ i d below. λ counts.
          let l : LinkValue = get_or net.links i d in
          let is : IsLink steps net.nodes (link_numbers net.links) l = valid.sound.links i d below in
          let both = and_parts (nat_eq l.node n.number) (nat_eq (length l.stages) 1) counts in
          let stage = is.stages 0 0 (omega (arith, eqb-true _ _ both.1)) in
          (stage.0, omega (arith, stage.1, ap (stages_at net.nodes) (eqb-true _ _ both.0), total));
      own = plan_fits steps n.stages n.stages (record { same = refl; allowed = no_fault });
    }
