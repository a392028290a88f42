-- Each call has one stage fewer.
use Rattle.std.proofs.Common.{length}
use Rattle.transyt_parts.proofs.shape.+same_stages.Given as goal

abbrev pub decreases-same_stages : goal.decreases-same_stages
decreases-same_stages l = length l.a.now
