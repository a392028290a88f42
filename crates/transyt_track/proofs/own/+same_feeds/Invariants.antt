-- Each call has one feed fewer.
use Rattle.std.proofs.Common.{length}
use Rattle.transyt_track.proofs.own.+same_feeds.Given as goal

abbrev pub decreases-same_feeds : goal.decreases-same_feeds
decreases-same_feeds l = length l.before.now
