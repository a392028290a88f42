-- One sweep more.
use Rattle.std.proofs.Common.{◌≡◌, ◌+◌, ◌-◌, refl, ap, ◌∙◌, arith}
use Rattle.transyt_parts.specs.declared.frame.Frame.{Frame}
use Rattle.transyt_track.specs.Due.{due, due_through}
use Rattle.transyt_track.proofs.DueLaws.{due_through_more, due_through_few, due_few}
use Rattle.transyt_track.proofs.MixedLaws.{mixed_end}
use Rattle.transyt_track.proofs.front.follow_rows.Goals as goal

pub loop-number-init : goal.loop-number-init
unfolding due_through
loop-number-init g c = record {
  front = c.set_out.ensures.front;
  marked = c.set_out.ensures.marked;
  count = refl;
  steps = omega arith;
}

pub overflow_add-count : goal.overflow_add-count
overflow_add-count g c =
    let a = c.args.change.now.before.now in
    let b = c.args.change.now.after.now in
    let s = c.loop-number.number in
    let sweeps = ap (λ (f : Frame). f.sweeps) c.frame-number-end.ensures.value in
    omega (
      arith,
      c.loop-number.invariant.count,
      c.follow-count.ensures.count,
      due_through_more a b s c.loop-number.auto.number,
      due_through_few a b c.args.change.now.same_shape c.frame-number-end.ensures.valid s
          (omega (arith, c.loop-number-test.true, sweeps)),
    )

pub loop-number-preserved : goal.loop-number-preserved
loop-number-preserved g c =
    let a = c.args.change.now.before.now in
    let b = c.args.change.now.after.now in
    let s = c.loop-number.number in
    let last : s + 1 - 1 ≡ s = omega arith in
    record {
      front = c.follow-count.ensures.front;
      marked = c.follow-count.ensures.marked ∙ c.loop-number.invariant.marked;
      count = rw last (omega (arith, c.loop-number.invariant.count, c.follow-count.ensures.count, due_through_more a b s c.loop-number.auto.number));
      steps = omega (arith, c.loop-number.invariant.steps, c.follow-count.ensures.steps);
    }

pub returns-clause-rows : goal.returns-clause-rows
returns-clause-rows g c =
    let at = c.loop-number.invariant.front.at in
    mixed_end at.outs at.shown (omega (arith, ap (λ (f : Frame). f.sweeps) c.frame-number-end.ensures.value))

pub returns-clause-count : goal.returns-clause-count
unfolding due
returns-clause-count g c =
    let a = c.args.change.now.before.now in
    let b = c.args.change.now.after.now in
    let sweeps : a.frame.sweeps ≡ b.frame.sweeps = (λ j. (c.args.change.now.same_shape j).frame.sweeps) in
    let all : c.loop-number.number - 1 ≡ a.frame.sweeps =
    omega (arith, ap (λ (f : Frame). f.sweeps) c.frame-number-end.ensures.value, sweeps) in
    c.loop-number.invariant.count ∙ ap (due_through a b) all

pub returns-clause-few : goal.returns-clause-few
returns-clause-few g c =
    let change = c.args.change.now in
    omega (
      arith,
      returns-clause-count g c,
      due_few change.before.now change.after.now change.same_shape c.frame-number-end.ensures.valid,
    )
