-- The links before this one have their feeds.
use Rattle.std.proofs.Common.{◌≡◌, ◌*◌, ◌≤◌}
use Rattle.transyt_make.specs.Works.{feed_works}
use Rattle.transyt_make.proofs.feeds.put_feeds.Given as goal

-- the links before this one have their feeds
abbrev pub invariant-loop-place : goal.invariant-loop-place
invariant-loop-place l = record {
  works : l.works ≡ feed_works l.town l.place;
  within : l.place ≤ 4 * l.town.nodes;
}
