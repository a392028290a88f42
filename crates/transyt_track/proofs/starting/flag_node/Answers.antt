-- One link more.
use Rattle.std.proofs.Common.{◌≡◌, ◌↔◌, ◌&&◌, IsTrue, not, nat_eq, length, get_or, ap, ◌∙◌, arith}
use Rattle.std.proofs.lemmas.List.{length-set, get_or_default}
use Rattle.transyt_net.specs.Parts.{node_of, no_node}
use Rattle.transyt_track.specs.Own.{PlacesValue, HaveNode, HaveData}
use Rattle.transyt_track.proofs.ChangeLaws.{down_more}
use Rattle.transyt_track.proofs.EditedLaws.{flag_down}
use Rattle.transyt_track.proofs.ShapeLaws.{shape_nodes}
use Rattle.transyt_track.proofs.starting.flag_node.Goals as goal

pub loop-link-preserved : goal.loop-link-preserved
loop-link-preserved c =
    let a = c.args.change.now.before.now in
    let b = c.args.change.now.after.now in
    let l = c.loop-link.link in
    let p = c.args.node in
    let flags = c.loop-link.own_changed.items in
    let told = c.same_times-changed.result in
    let read = c.link.ensures.read in
    let old = c.index-nodes-node.result in
    let new = c.index-nodes-node-2.result in
    let old_is : old ≡ node_of a p =
    c.index-nodes-node.is
    ∙ get_or_default c.nodes.result.now p old no_node
    (omega (arith, c.requires.node.inside, shape_nodes a b c.args.change.now.same_shape, ap length c.nodes.ensures.value))
    ∙ ap (λ ns. get_or ns p no_node) c.nodes.ensures.value in
    let new_is : new ≡ node_of b p =
    c.index-nodes-node-2.is
    ∙ get_or_default c.nodes-2.result.now p new no_node
    (omega (arith, c.requires.node.inside, ap length c.nodes-2.ensures.value))
    ∙ ap (λ ns. get_or ns p no_node) c.nodes-2.ensures.value in
    let is : IsTrue told ↔ HaveNode a b p = rw (← old_is, ← new_is) c.same_times-changed.ensures in
    record {
      count = length-set flags l (not told && nat_eq c.places.inside.node p) ∙ c.loop-link.invariant.count;
      down = down_more flags l (not told && nat_eq c.places.inside.node p) (HaveData a b)
          (omega (arith, read.inside, c.loop-link.invariant.count)) c.loop-link.invariant.down
          (rw (ap (λ (q : PlacesValue). q.node) c.places.view_is)
          (flag_down c.nodes.ensures.valid c.nodes-2.ensures.valid c.requires.node is read));
    }
