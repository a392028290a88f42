-- The draft with the new give-way rule is sound, and has no new number and no other total.
use Rattle.std.proofs.Common.{rules, ◌≡◌, refl, sym, ap, ◌∙◌, subst, get_or}
use Rattle.std.proofs.Math.Seq.{map-set_same}
use Rattle.transyt_parts.specs.Parts.{total_flow}
use Rattle.transyt_net.specs.Valid.{IsSound, link_number}
use Rattle.transyt_parts.specs.Made.{new_rule, set_rule}
use Rattle.transyt_net.proofs.PlaceLaws.{IsPut, put_there}
use Rattle.transyt_net.proofs.SoundLinks.{sound_rule}
use Rattle.transyt_net.proofs.TotalLaws.{links_put}
use Rattle.transyt_net.proofs.draft.Draft.give_way.Goals as goal

-- the link is written at the place of its number
put : (c : goal.After-self-1) → IsPut link_number (set_rule (new_rule c.args.other c.args.percent)) c.self.inside.links.items
    c.args.link c.in-Some-place.place c.index_mut-owner.result.now c.set_rule.new.link
put c =
    put_there link_number (set_rule (new_rule c.args.other c.args.percent)) (λ l. refl) c.self.inside.links.items c.args.link
    c.in-Some-place.place c.index_mut-owner.result.now c.set_rule.new.link (search rules)
    c.index_mut-owner.ensures.value c.set_rule.ensures

-- the network with the rule
pub returns-clause-ok : goal.returns-clause-ok
returns-clause-ok c =
    links_put _ _ _ c.args.link (set_rule (new_rule c.args.other c.args.percent)) c.self.view_is (put c).put

-- the new rule keeps the draft sound
pub invariant_of-self : goal.invariant_of-self
invariant_of-self c =
    let rule = new_rule c.args.other c.args.percent in
    let same : total_flow c.set_rule.new.link
    ≡ total_flow (get_or c.self.inside.links.items c.in-Some-place.place c.index_mut-owner.result.now) =
    ap total_flow c.set_rule.ensures ∙ ap total_flow c.index_mut-owner.ensures.value in (
      subst IsSound (sym (links_put _ _ _ c.args.link (set_rule rule) c.self.view_is (put c).put))
          (sound_rule c.args.self.now c.args.link rule (subst IsSound c.self.view_is c.self.invariant.0) (search rules)),
      c.self.invariant.1,
      c.self.invariant.2 ∙ (put c).keys,
      c.self.invariant.3
          ∙ sym (map-set_same total_flow c.self.inside.links.items c.in-Some-place.place c.set_rule.new.link
          c.index_mut-owner.result.now same),
    )
