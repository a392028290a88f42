-- Four steps more are shared, or one.
use Rattle.std.proofs.Common.{ℕ, ◌+◌, ◌*◌, arith}
use Rattle.transyt_profile.proofs.ReadyLaws.{all_first, one_shared, shared_at}
use Rattle.transyt_profile.proofs.readying.share_all.Goals as goal

pub loop-four-preserved : goal.loop-four-preserved
loop-four-preserved c =
    let lane = c.args.lane.now in
    let i : ℕ = 4 * c.loop-four.four in
    let one = one_shared lane _ i _ _ _ _ _ (omega arith) c.ready.ensures.share c.ready.ensures.small c.ready.ensures.ready
    c.add.ensures.total c.add.ensures.bits c.loop-four.invariant in
    let two = one_shared lane _ (i + 1) _ _ _ _ _ (omega arith) c.ready-in-loop-four.ensures.share
    c.ready-in-loop-four.ensures.small c.ready-in-loop-four.ensures.ready
    c.add-in-loop-four.ensures.total c.add-in-loop-four.ensures.bits one in
    let three = one_shared lane _ (i + 2) _ _ _ _ _ (omega arith) c.ready-in-loop-four-2.ensures.share
    c.ready-in-loop-four-2.ensures.small c.ready-in-loop-four-2.ensures.ready
    c.add-in-loop-four-2.ensures.total c.add-in-loop-four-2.ensures.bits (shared_at lane _ (i + 1 + 1) (i + 2) _ _ (omega arith) two) in
    shared_at lane _ (i + 3 + 1) _ _ _ (omega arith)
    (one_shared lane _ (i + 3) _ _ _ _ _ (omega arith) c.ready-in-loop-four-3.ensures.share
    c.ready-in-loop-four-3.ensures.small c.ready-in-loop-four-3.ensures.ready
    c.add-in-loop-four-3.ensures.total c.add-in-loop-four-3.ensures.bits (shared_at lane _ (i + 2 + 1) (i + 3) _ _ (omega arith) three))

pub loop-at-preserved : goal.loop-at-preserved
loop-at-preserved c =
    one_shared c.args.lane.now _ c.loop-at.at _ _ _ _ _ (omega arith) c.ready-in-loop-at.ensures.share
    c.ready-in-loop-at.ensures.small c.ready-in-loop-at.ensures.ready
    c.add-in-loop-at.ensures.total c.add-in-loop-at.ensures.bits c.loop-at.invariant

pub returns-clause-shared : goal.returns-clause-shared
returns-clause-shared c = all_first c.args.lane.now _ _ _ _ (omega arith) c.loop-at.invariant
