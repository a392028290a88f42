-- None of the three feeds has a fault.
use Rattle.std.proofs.Common.{[], refl, arith}
use Rattle.transyt_make.proofs.FeedLaws.{feed_free, second_free, third_free}
use Rattle.transyt_make.proofs.feeds.put_three.Goals as goal

pub grant_feed-requires : goal.grant_feed-requires
grant_feed-requires c =
    let r = c.requires in
    let f = c.args.feeds in
    feed_free c.args.draft.now c.args.link f.first [] r.unfed refl r.there r.feeders.0 f.first_range (omega arith)

pub grant_feed-requires-2 : goal.grant_feed-requires-2
grant_feed-requires-2 c =
    let r = c.requires in
    let f = c.args.feeds in
    second_free c.args.draft.now _ c.args.link f.first f.second c.in_ok-grant_feed.ensures r.unfed r.there
    r.feeders.1 f.second_range f.second_apart

pub grant_feed-requires-3 : goal.grant_feed-requires-3
grant_feed-requires-3 c =
    let r = c.requires in
    let f = c.args.feeds in
    third_free c.args.draft.now _ _ c.args.link f.first f.second f.third c.in_ok-grant_feed.ensures
    c.in_ok-grant_feed-2.ensures r.unfed r.there r.feeders.2 f.third_range f.third_apart f.turns_apart
