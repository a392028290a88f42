-- Four steps go by and arrive, or one.
use Rattle.std.proofs.Common.{ℕ, ◌+◌, ◌*◌, ◌^◌, ◌<◌, arith}
use Rattle.transyt_profile.proofs.Arrived.{arrived_room, none_arrived, one_arrived}
use Rattle.transyt_profile.proofs.Turns.{have_passed_at}
use Rattle.transyt_profile.proofs.group.Abreast.arrive_turn.Goals as goal

-- nothing has arrived yet
pub loop-four-init : goal.loop-four-init
loop-four-init g c = record {
  passed = have_passed_at _ _ _ _ (omega arith) c.requires.passed;
  sums = λ j. omega (arith, none_arrived j c.args.self.now.ready.platoons.now);
  small = c.requires.fit;
}

pub arrive_each-requires : goal.arrive_each-requires
arrive_each-requires g c =
    let r = c.args.self.now.ready in
    let few : g.row.N * 24 < 2 ^ 63 = omega (arith, c.args.self.now.count, r.few) in
    let fit = arrived_room _ _ _ _ _ (omega (arith, r.most)) c.loop-four.invariant in
    (omega arith, (few, (omega arith, (c.loop-four.invariant.passed, (omega arith, fit)))))

pub arrive_each-requires-in-loop-four : goal.arrive_each-requires-in-loop-four
arrive_each-requires-in-loop-four g c =
    let r = c.args.self.now.ready in
    let few : g.row.N * 24 < 2 ^ 63 = omega (arith, c.args.self.now.count, r.few) in
    let i : ℕ = 4 * c.loop-four.four in
    let one = one_arrived r _ i (i + 1) _ _ _ _ (omega arith) c.arrive_each.ensures.passed
    c.arrive_each.ensures.arrives c.arrive_each.ensures.grows c.loop-four.invariant in
    let fit = arrived_room _ _ _ _ _ (omega (arith, r.most)) one in
    (omega arith, (few, (omega arith, (one.passed, (omega arith, fit)))))

pub arrive_each-requires-in-loop-four-2 : goal.arrive_each-requires-in-loop-four-2
arrive_each-requires-in-loop-four-2 g c =
    let r = c.args.self.now.ready in
    let few : g.row.N * 24 < 2 ^ 63 = omega (arith, c.args.self.now.count, r.few) in
    let i : ℕ = 4 * c.loop-four.four in
    let one = one_arrived r _ i (i + 1) _ _ _ _ (omega arith) c.arrive_each.ensures.passed
    c.arrive_each.ensures.arrives c.arrive_each.ensures.grows c.loop-four.invariant in
    let two = one_arrived r _ (i + 1) (i + 2) _ _ _ _ (omega arith) c.arrive_each-in-loop-four.ensures.passed
    c.arrive_each-in-loop-four.ensures.arrives c.arrive_each-in-loop-four.ensures.grows one in
    let fit = arrived_room _ _ _ _ _ (omega (arith, r.most)) two in
    (omega arith, (few, (omega arith, (two.passed, (omega arith, fit)))))

pub arrive_each-requires-in-loop-four-3 : goal.arrive_each-requires-in-loop-four-3
arrive_each-requires-in-loop-four-3 g c =
    let r = c.args.self.now.ready in
    let few : g.row.N * 24 < 2 ^ 63 = omega (arith, c.args.self.now.count, r.few) in
    let i : ℕ = 4 * c.loop-four.four in
    let one = one_arrived r _ i (i + 1) _ _ _ _ (omega arith) c.arrive_each.ensures.passed
    c.arrive_each.ensures.arrives c.arrive_each.ensures.grows c.loop-four.invariant in
    let two = one_arrived r _ (i + 1) (i + 2) _ _ _ _ (omega arith) c.arrive_each-in-loop-four.ensures.passed
    c.arrive_each-in-loop-four.ensures.arrives c.arrive_each-in-loop-four.ensures.grows one in
    let three = one_arrived r _ (i + 2) (i + 3) _ _ _ _ (omega arith) c.arrive_each-in-loop-four-2.ensures.passed
    c.arrive_each-in-loop-four-2.ensures.arrives c.arrive_each-in-loop-four-2.ensures.grows two in
    let fit = arrived_room _ _ _ _ _ (omega (arith, r.most)) three in
    (omega arith, (few, (omega arith, (three.passed, (omega arith, fit)))))

pub loop-four-preserved : goal.loop-four-preserved
loop-four-preserved g c =
    let r = c.args.self.now.ready in
    let i : ℕ = 4 * c.loop-four.four in
    let one = one_arrived r _ i (i + 1) _ _ _ _ (omega arith) c.arrive_each.ensures.passed
    c.arrive_each.ensures.arrives c.arrive_each.ensures.grows c.loop-four.invariant in
    let two = one_arrived r _ (i + 1) (i + 2) _ _ _ _ (omega arith) c.arrive_each-in-loop-four.ensures.passed
    c.arrive_each-in-loop-four.ensures.arrives c.arrive_each-in-loop-four.ensures.grows one in
    let three = one_arrived r _ (i + 2) (i + 3) _ _ _ _ (omega arith) c.arrive_each-in-loop-four-2.ensures.passed
    c.arrive_each-in-loop-four-2.ensures.arrives c.arrive_each-in-loop-four-2.ensures.grows two in
    one_arrived r _ (i + 3) _ _ _ _ _ (omega arith) c.arrive_each-in-loop-four-3.ensures.passed
    c.arrive_each-in-loop-four-3.ensures.arrives c.arrive_each-in-loop-four-3.ensures.grows three

pub loop-step-preserved : goal.loop-step-preserved
loop-step-preserved g c =
    one_arrived c.args.self.now.ready _ c.loop-step.step _ _ _ _ _ (omega arith) c.arrive_each-in-loop-step.ensures.passed
    c.arrive_each-in-loop-step.ensures.arrives c.arrive_each-in-loop-step.ensures.grows c.loop-step.invariant
