-- The draft with the new stage of its last node is sound, and has no new number.
use Rattle.std.proofs.Common.{rules, ◌≡◌, ℕ, List, ◌<◌, ◌-◌, refl, sym, ap, ◌∙◌, subst, length, set, get_or}
use Rattle.transyt_parts.specs.declared.node.Stage.{Stage}
use Rattle.transyt_net.specs.Parts.{Network, network_of, NodeValue}
use Rattle.transyt_net.specs.Valid.{IsSound, node_numbers, on_place, node_number}
use Rattle.transyt_net.specs.Faults.{with_stage, last_place}
use Rattle.transyt_parts.specs.Made.{new_stage, add_stage}
use Rattle.transyt_net.proofs.PlaceLaws.{on_place_here, map_kept_at, length_kept_at}
use Rattle.transyt_net.proofs.SoundNodes.{sound_stage}
use Rattle.transyt_net.proofs.draft.Draft.stage.Goals as goal

-- the nodes as they are then
written : (c : goal.In_ok-add_stage) → set c.self.inside.nodes.items (c.len-last.result - 1) c.add_stage.new.node
    ≡ on_place (add_stage (new_stage c.args.change c.args.intergreen c.args.least)) c.self.inside.nodes.items
    (last_place c.self.inside.nodes.items)
written c =
    let stage : Stage = new_stage c.args.change c.args.intergreen c.args.least in
    let items : List NodeValue = c.self.inside.nodes.items in
    let old : NodeValue = c.index_mut-node.result.now in
    let last : ℕ = last_place items in
    let place : c.len-last.result - 1 ≡ last = search rules in
    let inside : last < length items = search rules in
    let node : c.add_stage.new.node ≡ add_stage stage (get_or items last old) =
    c.in_ok-add_stage.ensures.ok
    ∙ ap (add_stage stage) (c.index_mut-node.ensures.value ∙ ap (λ (p : ℕ). get_or items p old) place) in
    (λ j. set items (place j) (node j)) ∙ sym (on_place_here (add_stage stage) items last old inside)

-- the network with the stage
pub returns-clause-ok : goal.returns-clause-ok
returns-clause-ok c =
    ap (λ (ns : List NodeValue). network_of c.self.inside.frame ns c.self.inside.links.items c.self.inside.plan) (written c)
    ∙ ap (λ (n : Network). with_stage n (new_stage c.args.change c.args.intergreen c.args.least)) c.self.view_is

-- the new stage keeps the draft sound
pub invariant_of-self-2 : goal.invariant_of-self-2
invariant_of-self-2 c =
    let stage : Stage = new_stage c.args.change c.args.intergreen c.args.least in
    let items : List NodeValue = c.self.inside.nodes.items in
    let sound = sound_stage c.args.self.now stage (subst IsSound c.self.view_is c.self.invariant.0) (search rules) in
    let made = ap (λ (ns : List NodeValue). network_of c.self.inside.frame ns c.self.inside.links.items c.self.inside.plan)
    (written c) ∙ ap (λ (n : Network). with_stage n stage) c.self.view_is in (
      subst IsSound (sym made) sound,
      c.self.invariant.1
          ∙ sym (map_kept_at (add_stage stage) node_number (λ x. refl) items (last_place items))
          ∙ ap node_numbers (sym (written c)),
      c.self.invariant.2,
      c.self.invariant.3,
    )

-- no node is added
pub returns-clause-count : goal.returns-clause-count
returns-clause-count c =
    let nodes : List NodeValue = c.args.self.now.nodes in
    let stage : Stage = new_stage c.args.change c.args.intergreen c.args.least in
    ap (λ (n : Network). length n.nodes) (returns-clause-ok c) ∙ length_kept_at (add_stage stage) nodes (last_place nodes)
