-- One platoon more goes by.
use Rattle.std.proofs.Common.{◌+◌, ◌∙◌, arith}
use Rattle.std.proofs.lemmas.List.{length-set}
use Rattle.transyt_profile.specs.Passing.{HasPassed}
use Rattle.transyt_profile.proofs.Lanes.{go_less, go_more}
use Rattle.transyt_profile.proofs.group.Abreast.pass_each.Goals as goal

pub loop-lane-init : goal.loop-lane-init
loop-lane-init g c = record {
  len = c.told-goings;
  gone = λ i below d e inside. absurd (omega (arith, below));
  left = λ i above d e inside. c.requires.passed i d e inside;
}

pub pass-requires : goal.pass-requires
pass-requires g c =
    c.loop-lane.invariant.left c.loop-lane.lane (omega arith) _ _ (omega (arith, c.loop-lane-test.true, c.args.self.now.count))

pub loop-lane-preserved : goal.loop-lane-preserved
loop-lane-preserved g c = record {
  len = length-set c.loop-lane.goings c.loop-lane.lane _ ∙ c.loop-lane.invariant.len;
  gone = go_more (λ p e. HasPassed p (c.args.step + 1) e) _ _ _ _ _
      (omega (arith, c.loop-lane-test.true, c.loop-lane.invariant.len)) c.pass.ensures c.loop-lane.invariant.gone;
  left = go_less (λ p e. HasPassed p c.args.step e) _ _ _ _ c.loop-lane.invariant.left;
}

pub returns : goal.returns
returns g c = λ i d e inside.
    c.loop-lane.invariant.gone i (omega (arith, inside, c.args.self.now.count, c.loop-lane-test.false)) d e inside
