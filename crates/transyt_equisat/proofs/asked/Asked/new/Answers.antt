-- The demands of a valid network's node keep to the invariant: its greens are short, and its saturation flows above 0.
use Rattle.std.proofs.Common.{◌≡◌, ◌∙◌, ap}
use Rattle.std.proofs.lemmas.List.{get_or_read}
use Rattle.transyt_parts.specs.Parts.{NodeValue}
use Rattle.transyt_net.specs.Parts.{Network, node_of, no_node}
use Rattle.transyt_equisat.proofs.AnswerLaws.{asked_holds}
use Rattle.transyt_equisat.proofs.asked.Asked.new.Goals as goal

pub invariant_of-result : goal.invariant_of-result
invariant_of-result c =
    let net : Network = c.args.net.now in
    let n : NodeValue = node_of net c.args.node in
    let at : c.index-nodes-node.result ≡ n =
    get_or_read net.nodes c.args.node _ c.requires.node (rw c.nodes.ensures.value at c.index-nodes-node.is) no_node in
    let stages : c.deref.result.now ≡ n.stages = c.deref.ensures.value ∙ ap (λ (m : NodeValue). m.stages) (c.here.view_is ∙ at) in
    rw (c.frame.ensures.value, stages, c.requires.demands) (asked_holds net c.args.node c.nodes.ensures.valid c.requires.node)
