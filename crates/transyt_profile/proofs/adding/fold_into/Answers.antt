-- Two turns are folded.
use Rattle.std.proofs.Common.{◌^◌, arith}
use Rattle.std.proofs.lemmas.List.FromFn.{fill_by_all}
use Rattle.transyt_profile.proofs.AddedLaws.{folded_first}
use Rattle.transyt_profile.proofs.adding.fold_into.Goals as goal

-- both values of a step come to less than 2^48
pub overflow_add-out-in-loop-i : goal.overflow_add-out-in-loop-i
overflow_add-out-in-loop-i c = omega (arith, folded_first _ c.args.turns.now (2 ^ 48) c.loop-i.i c.requires.fit (omega arith))

-- with every step passed, all are folded
pub returns : goal.returns
returns c = fill_by_all _ c.loop-i.out _ 0 (omega arith) (λ k h. c.loop-i.invariant k (omega arith))
