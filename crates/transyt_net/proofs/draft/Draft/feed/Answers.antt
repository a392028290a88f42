-- The draft with the new feed is sound, has no new number, and has the new total.
use Rattle.std.proofs.Common.{rules, ◌≡◌, refl, sym, ap, map, set, ◌∙◌, subst}
use Rattle.transyt_parts.specs.Parts.{total_flow}
use Rattle.transyt_net.specs.Parts.{network_of}
use Rattle.transyt_net.specs.Valid.{IsSound, link_number, link_numbers}
use Rattle.transyt_parts.specs.Made.{new_feed, add_feed}
use Rattle.transyt_net.proofs.PlaceLaws.{IsPut, put_there, put_again, place_inside}
use Rattle.transyt_net.proofs.SoundLinks.{sound_feed}
use Rattle.transyt_net.proofs.TotalLaws.{total_set, link_set, links_put}
use Rattle.transyt_net.proofs.draft.Draft.feed.Goals.{In_ok-add_feed}
use Rattle.transyt_net.proofs.draft.Draft.feed.Goals as goal

-- the link is written at the place of its number
put : (c : In_ok-add_feed) → IsPut link_number (add_feed (new_feed c.args.feeder c.args.flow c.args.cruise))
    c.self.inside.links.items c.args.link c.in-Some-place.place c.index_mut-owner.result.now c.add_feed.new.link
put c =
    put_there link_number (add_feed (new_feed c.args.feeder c.args.flow c.args.cruise)) (λ l. refl)
    c.self.inside.links.items c.args.link c.in-Some-place.place c.index_mut-owner.result.now c.add_feed.new.link
    (search rules) c.index_mut-owner.ensures.value c.in_ok-add_feed.ensures.ok

-- the network with the feed
pub returns-clause-ok : goal.returns-clause-ok
returns-clause-ok c =
    links_put _ _ _ c.args.link (add_feed (new_feed c.args.feeder c.args.flow c.args.cruise)) c.self.view_is
    (put (goal.at.returns-clause-ok c).In_ok-add_feed).put

-- the flows of the link are as small as those of a sound draft
pub all_flow-requires : goal.all_flow-requires
all_flow-requires c =
    let feed = new_feed c.args.feeder c.args.flow c.args.cruise in
    let is = put (goal.at.all_flow-requires c).In_ok-add_feed in
    let sound = subst IsSound (sym (links_put _ _ _ c.args.link (add_feed feed) c.self.view_is is.put))
    (sound_feed c.args.self.now c.args.link feed (subst IsSound c.self.view_is c.self.invariant.0) (search rules)) in
    let is_link = link_set _ c.in-Some-place.place c.add_feed.new.link sound
    (place_inside link_number c.self.inside.links.items c.args.link c.in-Some-place.place (search rules)) in
    record { entry = is_link.entry; flows = λ k d inside. (is_link.feeds k d inside).flow; few = is_link.feed_count }

-- the new feed keeps the draft sound
pub invariant_of-self-2 : goal.invariant_of-self-2
invariant_of-self-2 c =
    let feed = new_feed c.args.feeder c.args.flow c.args.cruise in
    let is = put (goal.at.invariant_of-self-2 c).In_ok-add_feed in (
      subst IsSound (sym (links_put _ _ _ c.args.link (add_feed feed) c.self.view_is is.put))
          (sound_feed c.args.self.now c.args.link feed (subst IsSound c.self.view_is c.self.invariant.0) (search rules)),
      c.self.invariant.1,
      c.self.invariant.2 ∙ is.keys,
      total_set c.self.inside.totals.items c.self.inside.links.items c.in-Some-place.place c.all_flow.result
          c.add_feed.new.link c.self.invariant.3 c.all_flow.ensures.value,
    )

-- out of memory, the links are those from before
kept : (c : goal.After-from_residual) → set c.self.inside.links.items c.in-Some-place.place c.add_feed.new.link
    ≡ c.self.inside.links.items
kept c =
    put_again c.self.inside.links.items c.in-Some-place.place c.index_mut-owner.result.now c.add_feed.new.link
    c.in_err-add_feed.ensures.err c.index_mut-owner.ensures.value

-- so the draft stays sound
pub invariant_of-self : goal.invariant_of-self
invariant_of-self c = (
  subst (λ ls. IsSound (network_of c.self.inside.frame c.self.inside.nodes.items ls c.self.inside.plan)) (sym (kept c))
      c.self.invariant.0,
  c.self.invariant.1,
  c.self.invariant.2 ∙ ap link_numbers (sym (kept c)),
  c.self.invariant.3 ∙ ap (map total_flow) (sym (kept c)),
)
