-- Each call has one stage fewer.
use Rattle.std.proofs.Common.{length}
use Rattle.transyt_desks.proofs.equal.+same_stages.Given as goal

-- those that are left
abbrev pub decreases-same_stages : goal.decreases-same_stages
decreases-same_stages l = length l.a.now
