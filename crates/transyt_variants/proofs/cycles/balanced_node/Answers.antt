-- A balance has a share for each stage.
use Rattle.std.proofs.Common.{◌≡◌, ◌∙◌, ap, sym, length}
use Rattle.std.proofs.lemmas.List.{get_or_read}
use Rattle.transyt_parts.specs.Parts.{NodeValue}
use Rattle.transyt_net.specs.Parts.{Network, node_of, no_node}
use Rattle.transyt_equisat.specs.Balance.{GreensValue}
use Rattle.transyt_variants.proofs.BalancedLaws.{balance_count}
use Rattle.transyt_variants.proofs.cycles.balanced_node.Goals as goal

pub timed_node-made-requires : goal.timed_node-made-requires
timed_node-made-requires c =
    let net : Network = c.args.net.now in
    let at : c.index-nodes-place.result ≡ node_of net c.args.place =
    get_or_read net.nodes c.args.place _ c.requires (rw c.nodes.ensures.value at c.index-nodes-place.is) no_node in
    ap length (c.deref.ensures.value ∙ ap (λ (g : GreensValue). g.stages) (c.greens.view_is ∙ c.in_ok-greens.ensures.value))
    ∙ balance_count net c.args.place ∙ sym (ap (λ (n : NodeValue). length n.stages) at)
