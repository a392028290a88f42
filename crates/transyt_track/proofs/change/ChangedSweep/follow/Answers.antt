-- One turn more.
use Rattle.std.proofs.Common.{◌≡◌, ◌+◌, length, refl, ap, ◌∙◌, arith}
use Rattle.transyt_track.specs.Due.{due_in}
use Rattle.transyt_track.proofs.DueLaws.{due_in_more, due_in_few}
use Rattle.transyt_track.proofs.FrontLaws.{turned_sweep}
use Rattle.transyt_track.proofs.ShapeLaws.{shape_count}
use Rattle.transyt_track.proofs.change.ChangedSweep.follow.Goals as goal

pub loop-link-init : goal.loop-link-init
unfolding due_in
loop-link-init g c = record { front = c.requires; marked = refl; count = refl; steps = omega arith }

pub overflow_add-count : goal.overflow_add-count
overflow_add-count g c =
    let change = c.args.self.now.change.now in
    let s = c.args.self.now.number in
    omega (
      arith,
      c.turn-count.ensures.count,
      c.loop-link.invariant.count,
      due_in_more change.before.now change.after.now s c.loop-link.link,
      due_in_few change.before.now change.after.now s (c.loop-link.link + 1),
      c.loop-link-test.true,
      ap length c.links-link-end.ensures.value,
      c.links-link-end.ensures.valid.sound.link_count,
    )

pub loop-link-preserved : goal.loop-link-preserved
loop-link-preserved g c =
    let change = c.args.self.now.change.now in
    record {
      front = c.turn-count.ensures.front;
      marked = c.turn-count.ensures.marked ∙ c.loop-link.invariant.marked;
      count = omega (
        arith,
        c.turn-count.ensures.count,
        c.loop-link.invariant.count,
        due_in_more change.before.now change.after.now c.args.self.now.number c.loop-link.link,
      );
      steps = omega (arith, c.turn-count.ensures.steps, c.loop-link.invariant.steps);
    }

pub returns-clause-front : goal.returns-clause-front
returns-clause-front g c =
    let front = c.loop-link.invariant.front in
    record {
      at = turned_sweep front.at (omega (arith, ap length c.links-link-end.ensures.value));
      own = front.own;
      steps = front.steps;
    }

pub returns-clause-count : goal.returns-clause-count
returns-clause-count g c =
    let change = c.args.self.now.change.now in
    let all : c.loop-link.link ≡ length change.before.now.links = omega
    (arith, ap length c.links-link-end.ensures.value, shape_count change.before.now change.after.now change.same_shape) in
    rw (← all) c.loop-link.invariant.count
