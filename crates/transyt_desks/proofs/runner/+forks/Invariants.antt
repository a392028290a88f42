-- Each fork leaves one desk less to the calling thread.
use Rattle.std.proofs.Common.{◌+◌, ◌*◌, length}
use Rattle.transyt_desks.proofs.runner.+forks.Given as goal

-- the desks that are left, three times
abbrev pub decreases-Runner::try_moves_forked : goal.decreases-Runner::try_moves_forked
decreases-Runner::try_moves_forked g l = 3 * length l.desks.now

-- and the two calls between
abbrev pub decreases-Runner::try_moves_on_both : goal.decreases-Runner::try_moves_on_both
decreases-Runner::try_moves_on_both g l = 3 * length l.front.now + 2

abbrev pub decreases-Runner::try_moves_on_both-here : goal.decreases-Runner::try_moves_on_both-here
decreases-Runner::try_moves_on_both-here g l = 3 * length l.front.now + 1
