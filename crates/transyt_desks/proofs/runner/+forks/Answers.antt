-- The desks before the last have tried their moves by this thread, and the last has by its own.
use Rattle.std.proofs.Common.{◌≡◌, ◌<◌, length, refl, arith}
use Rattle.transyt_desks.proofs.ResultLaws.{found_more}
use Rattle.transyt_desks.proofs.runner.+forks.Goals as goal

pub Runner::try_moves_forked-returns-else-is_empty-2 : goal.Runner::try_moves_forked-returns-else-is_empty-2
Runner::try_moves_forked-returns-else-is_empty-2 g t c =
    let split = c.split_at_mut-front in
    let some : 0 < length c.args.desks.now = grind (arith, c.is_empty.ensures, c.if-is_empty.false) in
    rw split.ensures.value (found_more _ _ _ _ _ _ _ (omega (arith, split.ensures.back_len, some)) c.try_moves_on_both.ensures.front
    c.try_moves_on_both.ensures.last)

-- a desk alone has tried its moves
pub Runner::try_moves_forked-returns-then-is_empty-2 : goal.Runner::try_moves_forked-returns-then-is_empty-2
Runner::try_moves_forked-returns-then-is_empty-2 g t c =
    let split = c.split_at_mut-front in
    let some : 0 < length c.args.desks.now = grind (arith, c.is_empty.ensures, c.if-is_empty.false) in
    let none : length split.result.0.now ≡ 0 = grind (arith, c.is_empty-2.ensures, c.if-is_empty-2.true) in
    rw split.ensures.value (found_more _ _ _ _ split.result.1.now c.index-last-0.result c.try_moves_at_gate.new.desk
    (omega (arith, split.ensures.back_len, some))
    (record { len = refl; each = λ k d less. absurd (omega (arith, none, less)) }) (rw none c.try_moves_at_gate.ensures))
