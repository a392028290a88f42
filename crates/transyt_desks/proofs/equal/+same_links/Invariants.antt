-- Each call has one link fewer.
use Rattle.std.proofs.Common.{length}
use Rattle.transyt_desks.proofs.equal.+same_links.Given as goal

-- those that are left
abbrev pub decreases-same_links : goal.decreases-same_links
decreases-same_links l = length l.a.now
