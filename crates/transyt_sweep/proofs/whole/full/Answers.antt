-- After the last sweep the rows are the evaluation, and their index is its index.
use Rattle.std.proofs.Common.{◌≡◌, ◌+◌, subst, ap, arith}
use Rattle.transyt_parts.specs.declared.frame.Frame.{Frame}
use Rattle.transyt_sweep.specs.Front.{AreFilled}
use Rattle.transyt_sweep.proofs.FilledLaws.{filled_end, opened_filled}
use Rattle.transyt_sweep.proofs.IndexLaws.{index_is}
use Rattle.transyt_sweep.proofs.whole.full.Goals as goal

-- before the first sweep the links are started
pub loop-sweep-init : goal.loop-sweep-init
loop-sweep-init g c = record {
  filled = opened_filled c.args.net.now c.in_ok-rows.rows.now c.frame-sweep-end.ensures.valid.sound.frame.sweeps.0
      c.in_ok-rows.ensures.opened;
  unmarked = c.in_ok-rows.ensures.unmarked;
  step_count = c.in-Ok.ensures;
  steps = omega arith;
}

pub returns-clause-rows : goal.returns-clause-rows
returns-clause-rows g c =
    let all : c.loop-sweep.sweep ≡ c.args.net.now.frame.sweeps + 1 =
    omega (arith, ap (λ (f : Frame). f.sweeps) c.frame-sweep-end.ensures.value) in
    filled_end c.args.net.now c.loop-sweep.rows.now
    (subst (λ s. AreFilled c.args.net.now s 0 c.loop-sweep.rows.now) all c.loop-sweep.invariant.filled)

pub returns-clause-index : goal.returns-clause-index
returns-clause-index g c = index_is c.args.net.now _ (returns-clause-rows g c)
