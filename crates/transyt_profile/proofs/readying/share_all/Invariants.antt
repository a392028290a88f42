-- After so many rounds four times as many steps are shared, and then one more in each.
use Rattle.std.proofs.Common.{◌*◌}
use Rattle.transyt_profile.proofs.ReadyLaws.{AreSharedFirst}
use Rattle.transyt_profile.proofs.readying.share_all.Given as goal

abbrev pub invariant-loop-four : goal.invariant-loop-four
invariant-loop-four l = AreSharedFirst l.lane l.initial.lanes (4 * l.four) l.lanes l.shares

abbrev pub invariant-loop-at : goal.invariant-loop-at
invariant-loop-at l = AreSharedFirst l.lane l.fn.lanes l.at l.lanes l.shares
