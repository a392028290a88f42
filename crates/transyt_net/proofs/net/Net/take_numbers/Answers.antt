-- The net holds the nodes and links of the other one, which is valid, and keeps its numbers.
use Rattle.std.proofs.Common.{rules, ◌≡◌, ◌++◌, take, drop, length, sym, ap, ◌∙◌, subst, map}
use Rattle.std.proofs.lemmas.List.{take_at}
use Rattle.transyt_net.specs.Parts.{Network, network_of, SameShape, shape}
use Rattle.transyt_parts.specs.Parts.{total_flow}
use Rattle.transyt_net.specs.Valid.{node_numbers, link_numbers, IsValid}
use Rattle.transyt_net.proofs.ShapeLaws.{same_node_numbers, same_link_numbers}
use Rattle.transyt_net.proofs.net.Net.take_numbers.Goals as goal

-- the network is that of the other
whole : (c : goal.After-copy_from_slice)
    → network_of c.self.inside.frame
    (take c.self.inside.nodes.len
    (c.take_nodes.new.nodes ++ drop (length c.take_nodes.new.nodes) c.self.inside.nodes.items))
    (take c.self.inside.links.len
    (c.take_links.new.links ++ drop (length c.take_links.new.links) c.self.inside.links.items))
    c.self.inside.plan
    ≡ network_of c.from.inside.frame c.from.inside.nodes.items c.from.inside.links.items c.from.inside.plan
whole c =
    let a : Network =
    network_of c.self.inside.frame c.self.inside.nodes.items c.self.inside.links.items c.self.inside.plan in
    let b : Network =
    network_of c.from.inside.frame c.from.inside.nodes.items c.from.inside.links.items c.from.inside.plan in
    let same : SameShape a b = ap shape c.self.view_is ∙ c.requires ∙ sym (ap shape c.from.view_is) in
    let front = c.take_nodes.new.nodes in
    let node_count : c.self.inside.nodes.len ≡ length a.nodes = search rules in
    let front_len : length front ≡ length a.nodes = search rules in
    let nodes : take c.self.inside.nodes.len (front ++ drop (length front) a.nodes) ≡ b.nodes =
    take_at front _ c.self.inside.nodes.len (front_len ∙ sym node_count) ∙ search rules in
    let first = c.take_links.new.links in
    let link_count : c.self.inside.links.len ≡ length a.links = search rules in
    let first_len : length first ≡ length a.links = search rules in
    let links : take c.self.inside.links.len (first ++ drop (length first) a.links) ≡ b.links =
    take_at first _ c.self.inside.links.len (first_len ∙ sym link_count) ∙ search rules in
    let frames : a.frame ≡ b.frame = ap (λ (n : Network). n.frame) same in
    let plans : a.plan ≡ b.plan = ap (λ (n : Network). n.plan) same in
    (λ j. network_of (frames j) (nodes j) (links j) (plans j))

-- it is valid, and has the same numbers
pub invariant_of-self : goal.invariant_of-self
invariant_of-self c =
    let a : Network =
    network_of c.self.inside.frame c.self.inside.nodes.items c.self.inside.links.items c.self.inside.plan in
    let b : Network =
    network_of c.from.inside.frame c.from.inside.nodes.items c.from.inside.links.items c.from.inside.plan in
    let same : SameShape a b = ap shape c.self.view_is ∙ c.requires ∙ sym (ap shape c.from.view_is) in (
      subst IsValid (sym (whole c)) c.from.invariant.0,
      c.self.invariant.1 ∙ same_node_numbers a b same ∙ ap (λ (n : Network). node_numbers n.nodes) (sym (whole c)),
      c.self.invariant.2 ∙ same_link_numbers a b same ∙ ap (λ (n : Network). link_numbers n.links) (sym (whole c)),
      c.copy_from_slice.ensures.items
          ∙ c.deref-3.ensures.value
          ∙ c.from.invariant.3
          ∙ ap (λ (n : Network). map total_flow n.links) (sym (whole c)),
    )

-- the other network, as contracts see it
pub returns : goal.returns
returns c = whole c ∙ c.from.view_is
