-- Each call has one stage fewer.
use Rattle.std.proofs.Common.{length}
use Rattle.transyt_track.proofs.own.+same_changes.Given as goal

abbrev pub decreases-same_changes : goal.decreases-same_changes
decreases-same_changes l = length l.before.now
