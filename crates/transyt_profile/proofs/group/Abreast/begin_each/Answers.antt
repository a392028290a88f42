-- One platoon more stands before its first step.
use Rattle.std.proofs.Common.{◌∙◌, arith}
use Rattle.std.proofs.lemmas.List.{length-set}
use Rattle.transyt_profile.specs.Passing.{HasPassed}
use Rattle.transyt_profile.proofs.Lanes.{go_more}
use Rattle.transyt_profile.proofs.group.Abreast.begin_each.Goals as goal

pub loop-lane-preserved : goal.loop-lane-preserved
loop-lane-preserved g c = record {
  len = length-set c.loop-lane.goings c.loop-lane.lane c.begin.result ∙ c.loop-lane.invariant.len;
  begun = go_more (λ p e. HasPassed p 0 e) _ _ _ _ _ (omega (arith, c.loop-lane-test.true, c.loop-lane.invariant.len))
      c.begin.ensures c.loop-lane.invariant.begun;
}

pub returns : goal.returns
returns g c = λ i d e inside.
    c.loop-lane.invariant.begun i (omega (arith, inside, c.args.self.now.count, c.loop-lane-test.false)) d e inside
