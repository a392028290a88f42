-- One feed more.
use Rattle.std.proofs.Common.{◌≡◌, [], ◌∷◌, ◌++◌, sym, ◌∙◌, rules}
use Rattle.std.proofs.lemmas.List.{map_more}
use Rattle.transyt_track.specs.Own.{feeder_place}
use Rattle.transyt_track.proofs.own.feeder_places.Goals as goal

pub loop-feed-preserved : goal.loop-feed-preserved
loop-feed-preserved c =
    let pushed : c.push.new.self.items ≡ c.loop-feed.places.items ++ c.link_place.result ∷ [] = search rules in
    pushed
    ∙ (λ j. c.loop-feed.invariant j ++ c.link_place.ensures j ∷ [])
    ∙ sym (map_more (feeder_place c.args.net.now) c.args.feeds.now c.loop-feed.feed-index _ c.loop-feed-test.true)
