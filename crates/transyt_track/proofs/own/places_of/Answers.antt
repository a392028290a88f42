-- The feeders come first, and then the link of the rule.
use Rattle.std.proofs.Common.{◌≡◌, ◌++◌, length, map, option_to_list, ap, ◌∙◌, rules}
use Rattle.transyt_parts.specs.Parts.{LinkValue}
use Rattle.transyt_track.specs.Own.{places_at, feeder_place, node_place, rule_place}
use Rattle.transyt_track.proofs.PlaceLaws.{places_read}
use Rattle.transyt_track.proofs.own.places_of.Goals as goal

pub returns : goal.returns
returns c =
    let net = c.args.net.now in
    let at = c.at.view_is ∙ c.link_at-at.ensures.value in
    let read = c.in_ok-read.read.items in
    let node : c.node_place-node.result ≡ (places_at net c.args.link).node =
    c.node_place-node.ensures ∙ ap (λ (v : LinkValue). node_place net v.node) at in
    let feeders : read ≡ (places_at net c.args.link).feeders =
    c.in_ok-read.ensures ∙ ap (map (feeder_place net)) (c.deref.ensures.value ∙ ap (λ (v : LinkValue). v.feeds) at) in
    let count : c.len-feeder_count.result ≡ length read = search rules in
    places_read net c.args.link _ _ _ read node feeders count
    (c.in_ok-push_rule.ensures ∙ ap (λ (v : LinkValue). read ++ option_to_list (rule_place net v.gives_way)) at)
