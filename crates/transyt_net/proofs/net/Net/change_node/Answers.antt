-- The node that an edit names is there and takes it; the network is then the edited one, and stays valid.
use Rattle.std.proofs.Common.{rules, sym, ◌∙◌, subst}
use Rattle.transyt_net.specs.Parts.{node_in}
use Rattle.transyt_net.specs.Valid.{IsValid, node_number}
use Rattle.transyt_net.specs.Edits.{node_edit}
use Rattle.transyt_net.specs.There.{NodeTakes}
use Rattle.transyt_net.proofs.PlaceLaws.{IsPut, put_there, found_at}
use Rattle.transyt_net.proofs.ApplyLaws.{valid_edit}
use Rattle.transyt_net.proofs.NamedLaws.{takes, node_done, node_back_done, node_numbers_kept}
use Rattle.transyt_net.proofs.net.Net.change_node.Goals as goal

-- the node is written at the place of its number
put : (c : goal.After-self-1) → IsPut node_number (node_edit c.args.e.now) c.self.inside.nodes.items c.args.number
    c.in-Some.place c.index_mut-node.result.now c.edit_node.new.node
put c =
    put_there node_number (node_edit c.args.e.now) (node_numbers_kept c.args.e.now) c.self.inside.nodes.items c.args.number
    c.in-Some.place c.index_mut-node.result.now c.edit_node.new.node (search rules) c.index_mut-node.ensures.value
    c.edit_node.ensures.value

-- the network is the edited one
pub returns-clause-value : goal.returns-clause-value
returns-clause-value c = node_done _ _ c.args.e.now c.args.number _ c.self.view_is c.requires.names (put c).put

-- it stays valid, and keeps its numbers
pub invariant_of-self : goal.invariant_of-self
invariant_of-self c =
    let made = node_done _ _ c.args.e.now c.args.number _ c.self.view_is c.requires.names (put c).put in (
      subst IsValid (sym made) (valid_edit c.args.self.now c.args.e.now (subst IsValid c.self.view_is c.self.invariant.0)
          c.requires.allowed),
      c.self.invariant.1 ∙ (put c).keys,
      c.self.invariant.2,
      c.self.invariant.3,
    )

-- the node takes the edit
pub edit_node-requires : goal.edit_node-requires
edit_node-requires c =
    subst (λ o. NodeTakes c.args.e.now (node_in o))
    (found_at node_number c.self.inside.nodes.items c.args.number c.in-Some.place c.index_mut-node.result.now (search rules)
    c.index_mut-node.ensures.value) (takes _ _ c.args.e.now _ c.self.view_is c.requires.names c.requires.allowed).1

-- the inverse
pub returns-clause-back : goal.returns-clause-back
returns-clause-back c =
    c.edit_node.ensures.back ∙ node_back_done _ _ c.args.e.now c.args.number _ c.self.view_is c.requires.names
    (found_at node_number c.self.inside.nodes.items c.args.number c.in-Some.place c.index_mut-node.result.now (search rules)
    c.index_mut-node.ensures.value)
