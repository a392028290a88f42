-- The answer for a least peak is put together.
use Rattle.std.proofs.Common.{◌≡◌, ◌∙◌, ℕ, ap, sym, List}
use Rattle.std.proofs.lemmas.List.{get_or_read}
use Rattle.transyt_parts.specs.Parts.{NodeValue}
use Rattle.transyt_net.specs.Parts.{Network, node_of, no_node}
use Rattle.transyt_equisat.specs.Balance.{greens_at}
use Rattle.transyt_equisat.proofs.SettingLaws.{setting_of}
use Rattle.transyt_equisat.proofs.AskedLaws.{shares_asked}
use Rattle.transyt_equisat.proofs.AnswerLaws.{greens_count}
use Rattle.transyt_equisat.proofs.balancing.answer_for.Goals as goal

-- a green for each stage
pub invariant_of-green-clause-count : goal.invariant_of-green-clause-count
invariant_of-green-clause-count c =
    rw (c.deref-2.ensures.value, c.in_ok-filled.ensures.value, c.args.here.now.theirs)
    (greens_count c.args.here.now.net.now (node_of c.args.here.now.net.now c.args.here.now.node) c.args.peak)

-- the greens are short
pub invariant_of-green-clause-small : goal.invariant_of-green-clause-small
invariant_of-green-clause-small c = rw c.deref-2.ensures.value c.in_ok-filled.ensures.small

-- the links that count at a node of a valid network run in its stages
pub invariant_of-set-clause-within : goal.invariant_of-set-clause-within
invariant_of-set-clause-within c =
    let net : Network = c.args.here.now.net.now in
    let n : NodeValue = node_of net c.args.here.now.node in
    let at = get_or_read net.nodes c.args.here.now.node _ c.args.here.now.inside
    (rw c.nodes.ensures.value at c.index-nodes-here.is) no_node in
    let number : c.node.inside.number ≡ n.number = ap (λ (m : NodeValue). m.number) (c.node.view_is ∙ at) in
    rw (number, c.deref.ensures.value, c.in_ok-filled.ensures.value, greens_count net n c.args.peak)
    (setting_of net c.args.here.now.node c.nodes.ensures.valid c.args.here.now.inside).within

pub invariant_of-set-clause-small : goal.invariant_of-set-clause-small
invariant_of-set-clause-small c = rw c.deref.ensures.value c.in_ok-filled.ensures.small

-- the shares and the peak are those of the definition
pub returns : goal.returns
returns c =
    let net : Network = c.args.here.now.net.now in
    let n : NodeValue = node_of net c.args.here.now.node in
    let at = get_or_read net.nodes c.args.here.now.node _ c.args.here.now.inside
    (rw c.nodes.ensures.value at c.index-nodes-here.is) no_node in
    let number : c.node.inside.number ≡ n.number = ap (λ (m : NodeValue). m.number) (c.node.view_is ∙ at) in
    let gs : List ℕ = c.deref-2.result.now in
    let greens : gs ≡ greens_at net n c.args.peak = c.deref-2.ensures.value ∙ c.in_ok-filled.ensures.value in
    let others : c.deref.result.now ≡ gs = c.deref.ensures.value ∙ sym c.deref-2.ensures.value in
    let setting = setting_of net c.args.here.now.node c.nodes.ensures.valid c.args.here.now.inside in
    rw (
      c.peak_told-top.ensures,
      c.in_ok-shares.ensures,
      c.args.here.now.theirs,
      number,
      others,
      shares_asked net n c.args.peak setting gs,
      greens,
    )
