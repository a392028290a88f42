-- Each call has one feed fewer.
use Rattle.std.proofs.Common.{length}
use Rattle.transyt_desks.proofs.equal.+same_feeds.Given as goal

-- those that are left
abbrev pub decreases-same_feeds : goal.decreases-same_feeds
decreases-same_feeds l = length l.a.now
