-- The draft with the new link is sound, and has its number and its total at the end.
use Rattle.std.proofs.Common.{rules, ◌≡◌, refl, sym, ap, map, ◌∙◌, subst, [], ◌∷◌, ◌++◌}
use Rattle.transyt_parts.specs.Parts.{total_flow}
use Rattle.transyt_net.specs.Parts.{network_of}
use Rattle.transyt_net.specs.Valid.{IsSound, link_number, link_numbers}
use Rattle.transyt_net.specs.Faults.{with_link}
use Rattle.transyt_parts.specs.Made.{link_from}
use Rattle.transyt_net.proofs.SoundNodes.{one_more}
use Rattle.transyt_net.proofs.SoundLinks.{sound_link}
use Rattle.transyt_net.proofs.draft.Draft.link.Goals as goal

-- the new link keeps the draft sound
pub invariant_of-self-2 : goal.invariant_of-self-2
invariant_of-self-2 c =
    let new = link_from c.args.link c.args.stages.now in
    let old = c.self.inside.links.items in
    let links : c.push_reserved-2.new.self.items ≡ old ++ new ∷ [] = search rules in
    let totals : c.push_reserved.new.self.items ≡ c.self.inside.totals.items ++ total_flow new ∷ [] = search rules in
    let made = ap (λ ls. network_of c.self.inside.frame c.self.inside.nodes.items ls c.self.inside.plan) links
    ∙ ap (λ net. with_link net new) c.self.view_is in (
      subst IsSound (sym made)
          (sound_link c.args.self.now new (subst IsSound c.self.view_is c.self.invariant.0)
          (c.requires.some, c.requires.most) refl refl (search rules)),
      c.self.invariant.1,
      c.in_ok-push.ensures.ok
          ∙ one_more link_number old c.self.inside.link_places new c.self.invariant.2
          ∙ ap link_numbers (sym links),
      totals
          ∙ one_more total_flow old c.self.inside.totals.items new c.self.invariant.3
          ∙ ap (map total_flow) (sym links),
    )
