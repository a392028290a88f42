-- Each call has one link fewer.
use Rattle.std.proofs.Common.{length}
use Rattle.transyt_parts.proofs.shape.+same_links.Given as goal

abbrev pub decreases-same_links : goal.decreases-same_links
decreases-same_links l = length l.a.now
