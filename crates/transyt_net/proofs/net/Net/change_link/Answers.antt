-- The link that an edit names is there and takes it; the network is then the edited one, stays valid, and has the
-- link's new total.
use Rattle.std.proofs.Common.{rules, sym, ◌∙◌, subst}
use Rattle.transyt_net.specs.Valid.{IsValid, link_number}
use Rattle.transyt_net.specs.Edits.{link_edit, link_in}
use Rattle.transyt_net.specs.There.{LinkTakes}
use Rattle.transyt_net.proofs.PlaceLaws.{place_inside, found_at, IsPut, put_there}
use Rattle.transyt_net.proofs.ApplyLaws.{valid_edit}
use Rattle.transyt_net.proofs.TotalLaws.{total_set, link_set}
use Rattle.transyt_net.proofs.NamedLaws.{takes, link_done, link_back_done, link_numbers_kept}
use Rattle.transyt_net.proofs.net.Net.change_link.Goals.{After-edit_link-back}
use Rattle.transyt_net.proofs.net.Net.change_link.Goals as goal

-- the link is written at the place of its number
put : (c : After-edit_link-back) → IsPut link_number (link_edit c.args.e.now) c.self.inside.links.items c.args.number
    c.in-Some.place c.index_mut-link.result.now c.edit_link-back.new.link
put c =
    put_there link_number (link_edit c.args.e.now) (link_numbers_kept c.args.e.now) c.self.inside.links.items c.args.number
    c.in-Some.place c.index_mut-link.result.now c.edit_link-back.new.link (search rules) c.index_mut-link.ensures.value
    c.edit_link-back.ensures.value

-- the network is the edited one
pub returns-clause-value : goal.returns-clause-value
returns-clause-value c = link_done _ _ c.args.e.now c.args.number _ c.self.view_is c.requires.names
    (put (goal.at.returns-clause-value c).After-edit_link-back).put

-- it stays valid, and keeps its numbers
pub invariant_of-self : goal.invariant_of-self
invariant_of-self c =
    let is = put (goal.at.invariant_of-self c).After-edit_link-back in
    let made = link_done _ _ c.args.e.now c.args.number _ c.self.view_is c.requires.names is.put in (
      subst IsValid (sym made) (valid_edit c.args.self.now c.args.e.now (subst IsValid c.self.view_is c.self.invariant.0)
          c.requires.allowed),
      c.self.invariant.1,
      c.self.invariant.2 ∙ is.keys,
      total_set c.self.inside.totals.items c.self.inside.links.items c.in-Some.place c.all_flow.result
          c.edit_link-back.new.link c.self.invariant.3 c.all_flow.ensures.value,
    )

-- the flows of the link are as small as those of a valid network
pub all_flow-requires : goal.all_flow-requires
all_flow-requires c =
    let is = put (goal.at.all_flow-requires c).After-edit_link-back in
    let made = link_done _ _ c.args.e.now c.args.number _ c.self.view_is c.requires.names is.put in
    let valid = subst IsValid (sym made) (valid_edit c.args.self.now c.args.e.now
    (subst IsValid c.self.view_is c.self.invariant.0) c.requires.allowed) in
    let sound = link_set _ c.in-Some.place c.edit_link-back.new.link valid.sound
    (place_inside link_number c.self.inside.links.items c.args.number c.in-Some.place (search rules)) in
    record { entry = sound.entry; flows = λ k d inside. (sound.feeds k d inside).flow; few = sound.feed_count }

-- the link takes the edit
pub edit_link-back-requires : goal.edit_link-back-requires
edit_link-back-requires c =
    subst (λ o. LinkTakes c.args.e.now (link_in o))
    (found_at link_number c.self.inside.links.items c.args.number c.in-Some.place c.index_mut-link.result.now (search rules)
    c.index_mut-link.ensures.value) (takes _ _ c.args.e.now _ c.self.view_is c.requires.names c.requires.allowed).1

-- the inverse
pub returns-clause-back : goal.returns-clause-back
returns-clause-back c =
    c.edit_link-back.ensures.back ∙ link_back_done _ _ c.args.e.now c.args.number _ c.self.view_is c.requires.names
    (found_at link_number c.self.inside.links.items c.args.number c.in-Some.place c.index_mut-link.result.now (search rules)
    c.index_mut-link.ensures.value)
