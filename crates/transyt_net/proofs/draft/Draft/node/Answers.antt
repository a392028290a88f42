-- The draft with the new node is sound, and has its number at the end.
use Rattle.std.proofs.Common.{rules, ◌≡◌, sym, ap, ◌∙◌, subst, [], ◌∷◌, ◌++◌}
use Rattle.transyt_net.specs.Parts.{network_of}
use Rattle.transyt_net.specs.Valid.{IsSound, node_number, node_numbers}
use Rattle.transyt_net.specs.Faults.{with_node}
use Rattle.transyt_parts.specs.Made.{new_node}
use Rattle.transyt_net.proofs.SoundNodes.{sound_node, one_more}
use Rattle.transyt_net.proofs.draft.Draft.node.Goals as goal

-- the new node keeps the draft sound
pub invariant_of-self-2 : goal.invariant_of-self-2
invariant_of-self-2 c =
    let new = new_node c.args.number c.args.offset in
    let nodes : c.push_reserved.new.self.items ≡ c.self.inside.nodes.items ++ new ∷ [] = search rules in
    let made = ap (λ ns. network_of c.self.inside.frame ns c.self.inside.links.items c.self.inside.plan) nodes
    ∙ ap (λ net. with_node net c.args.number c.args.offset) c.self.view_is in (
      subst IsSound (sym made)
          (sound_node c.args.self.now c.args.number c.args.offset
          (subst IsSound c.self.view_is c.self.invariant.0) (search rules)),
      c.in_ok-push.ensures.ok
          ∙ one_more node_number c.self.inside.nodes.items c.self.inside.node_places new c.self.invariant.1
          ∙ ap node_numbers (sym nodes),
      c.self.invariant.2,
      c.self.invariant.3,
    )
