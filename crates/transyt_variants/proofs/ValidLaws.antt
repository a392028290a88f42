-- A network with another frame and other nodes is valid, where these are.
use Rattle.std.proofs.Common.{◌≡◌, ℕ, ◌<◌, ◌≤◌, true, List, map, None, ap, ◌∙◌, arith, All, IfSome}
use Rattle.std.proofs.lemmas.Bool.Decides.{nat_tests}
use Rattle.transyt_parts.specs.declared.frame.Frame.{Frame}
use Rattle.transyt_parts.specs.Parts.{NodeValue, LinkValue}
use Rattle.transyt_parts.specs.Plan.{plan_fault}
use Rattle.transyt_parts.specs.Made.{bare_node}
use Rattle.transyt_parts.specs.Valid.{IsFrame, IsNode, IsPlan, all_differ}
use Rattle.transyt_parts.proofs.CopyLaws.{same_length}
use Rattle.transyt_net.specs.Parts.{Network, with_signals}
use Rattle.transyt_net.specs.Valid.{IsValid, IsLink, node_numbers, link_numbers, stages_at, is_among}
use Rattle.transyt_net.proofs.ShapeLaws.{same_numbers, same_stages_at}

-- lags that are shorter than so many steps
pub record HasShortLags (steps : ℕ) (l : LinkValue) : Type 0 where
  pub start_lag : l.start_lag < steps
  pub end_lag : l.end_lag < steps

-- the conditions on new nodes and a new frame, for the network to stay valid
pub record AreSignals (net : Network) (frame : Frame) (nodes : List NodeValue) : Type 0 where
  pub framed : IsFrame frame
  pub same : map bare_node nodes ≡ map bare_node net.nodes
  pub each : All (IsNode frame.step_count) nodes
  pub planned : All (λ n. plan_fault frame.step_count n.stages ≡ None) nodes
  pub lags : All (HasShortLags frame.step_count) net.links
  pub plan : IfSome net.plan (IsPlan frame.step_count)

-- a link with short lags is valid among the new nodes
link_again : (net : Network) (frame : Frame) (nodes : List NodeValue) (l : LinkValue)
    → map bare_node nodes ≡ map bare_node net.nodes → HasShortLags frame.step_count l
    → IsLink net.frame.step_count net.nodes (link_numbers net.links) l
    → IsLink frame.step_count nodes (link_numbers net.links) l
link_again net frame nodes l same short is =
    let among : is_among (node_numbers nodes) l.node ≡ true =
    ap (λ ks. is_among ks l.node) (same_numbers nodes net.nodes same) ∙ is.node in
    let staged : All (λ k. (1 ≤ k) × (k ≤ stages_at nodes l.node)) l.stages =
    λ i d below. (let one = is.stages i d below in
    (one.0, omega (arith, one.1, same_stages_at nodes net.nodes l.node same))) in
    grind (arith, nat_tests)

-- the network with these signals is valid
pub valid_signals : (net : Network) (frame : Frame) (nodes : List NodeValue) → IsValid net → AreSignals net frame nodes
    → IsValid (with_signals net frame nodes)
valid_signals net frame nodes valid are =
    let sound = valid.sound in
    record {
      sound = record {
        frame = are.framed;
        node_count = omega (arith, same_length bare_node nodes net.nodes are.same, sound.node_count);
        nodes_differ = ap all_differ (same_numbers nodes net.nodes are.same) ∙ sound.nodes_differ;
        nodes = are.each;
        link_count = sound.link_count;
        links_differ = sound.links_differ;
        links = λ i d below. link_again net frame nodes _ are.same (are.lags i d below) (sound.links i d below);
        plan = are.plan;
      };
      planned = are.planned;
    }

-- so is the network with other nodes of its shape
pub valid_nodes : (net : Network) (nodes : List NodeValue) → IsValid net → map bare_node nodes ≡ map bare_node net.nodes
    → All (IsNode net.frame.step_count) nodes → All (λ n. plan_fault net.frame.step_count n.stages ≡ None) nodes
    → IsValid (with_signals net net.frame nodes)
valid_nodes net nodes valid same each planned =
    valid_signals net net.frame nodes valid (record {
      framed = valid.sound.frame;
      same = same;
      each = each;
      planned = planned;
      lags = λ i d below.
          let link = valid.sound.links i d below in
          record { start_lag = link.start_lag; end_lag = link.end_lag };
      plan = valid.sound.plan;
    })
