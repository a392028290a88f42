-- Four steps go by, or one.
use Rattle.std.proofs.Common.{◌*◌, ◌^◌, ◌<◌, arith}
use Rattle.transyt_profile.proofs.Turns.{have_passed_at}
use Rattle.transyt_profile.proofs.group.Abreast.pass_turn.Goals as goal

pub pass_each-requires-in-loop-four-2 : goal.pass_each-requires-in-loop-four-2
pass_each-requires-in-loop-four-2 g c =
    let few : g.row.N * 24 < 2 ^ 63 = omega (arith, c.args.self.now.count, c.args.self.now.ready.few) in
    (omega arith, (few, (omega arith, have_passed_at _ _ _ _ (omega arith) c.pass_each-in-loop-four.ensures)))

pub pass_each-requires-in-loop-four-3 : goal.pass_each-requires-in-loop-four-3
pass_each-requires-in-loop-four-3 g c =
    let few : g.row.N * 24 < 2 ^ 63 = omega (arith, c.args.self.now.count, c.args.self.now.ready.few) in
    (omega arith, (few, (omega arith, have_passed_at _ _ _ _ (omega arith) c.pass_each-in-loop-four-2.ensures)))

pub loop-four-preserved : goal.loop-four-preserved
loop-four-preserved g c = have_passed_at _ _ _ _ (omega arith) c.pass_each-in-loop-four-3.ensures

pub loop-step-init : goal.loop-step-init
loop-step-init g c = have_passed_at _ _ _ _ (omega arith) c.loop-four.invariant

pub returns : goal.returns
returns g c = have_passed_at _ _ _ _ (omega arith) c.loop-step.invariant
