-- One platoon more goes by and arrives.
use Rattle.std.proofs.Common.{ℕ, ◌+◌, ◌^◌, ◌<◌, List, length, sum_by, ap, sym, ◌∙◌, arith}
use Rattle.std.proofs.lemmas.List.{length-set, take_all}
use Rattle.std.proofs.lemmas.List.Sums.{sum_by_more}
use Rattle.transyt_profile.specs.Passing.{HasPassed, arrived}
use Rattle.transyt_profile.specs.declared.platoon.Platoon.{Platoon}
use Rattle.transyt_profile.proofs.Lanes.{go_less, go_more}
use Rattle.transyt_profile.proofs.Turns.{passed_at}
use Rattle.transyt_profile.proofs.group.Abreast.arrive_each.Goals as goal

pub loop-lane-init : goal.loop-lane-init
loop-lane-init g c = record {
  len = c.told-goings;
  gone = λ i below d e inside. absurd (omega (arith, below));
  left = λ i above d e inside. c.requires.passed i d e inside;
  arrives = λ j. omega arith;
  grows = λ limit within j d h. omega (arith, within j d h);
}

pub arrive-requires-clause-passed : goal.arrive-requires-clause-passed
arrive-requires-clause-passed g c =
    let ps : List Platoon = c.args.self.now.ready.platoons.now in
    let inside : c.loop-lane.lane < length ps = omega (arith, c.loop-lane-test.true, c.args.self.now.count) in
    let same = c.args.self.now.ready.ready.same c.loop-lane.lane c.index-self-lane.result inside in
    passed_at _ _ _ _ (ap (λ n. n + c.args.step) (sym same))
    (c.loop-lane.invariant.left c.loop-lane.lane (omega arith) _ _ inside)

pub arrive-requires-clause-fit : goal.arrive-requires-clause-fit
arrive-requires-clause-fit g c = λ k d h.
    omega (arith, c.loop-lane.invariant.grows (2 ^ 61) c.requires.fit k d h, c.args.self.now.count, c.args.self.now.ready.few)

pub loop-lane-preserved : goal.loop-lane-preserved
loop-lane-preserved g c =
    let ps : List Platoon = c.args.self.now.ready.platoons.now in
    let n : ℕ = c.args.self.now.ready.step_count in
    let k : ℕ = c.loop-lane.lane in
    let inside : k < length ps = omega (arith, c.loop-lane-test.true, c.args.self.now.count) in
    let same = c.args.self.now.ready.ready.same k c.index-self-lane.result inside in
    record {
      len = length-set c.loop-lane.goings k _ ∙ c.loop-lane.invariant.len;
      gone = go_more (λ p e. HasPassed p (n + (c.args.step + 1)) e) _ _ _ _ _
          (omega (arith, c.loop-lane-test.true, c.loop-lane.invariant.len))
          (passed_at _ _ _ _ (ap (λ m. m + (c.args.step + 1)) same) c.arrive.ensures.passed) c.loop-lane.invariant.gone;
      left = go_less (λ p e. HasPassed p (n + c.args.step) e) _ _ _ _ c.loop-lane.invariant.left;
      arrives = λ j. omega (
        arith,
        c.arrive.ensures.arrives j,
        c.loop-lane.invariant.arrives j,
        sum_by_more (arrived c.args.step j) ps k c.index-self-lane.result inside,
        sum_by_more (arrived (c.args.step + 1) j) ps k c.index-self-lane.result inside,
      );
      grows = λ limit within j d h.
          omega (arith, c.arrive.ensures.grows _ (c.loop-lane.invariant.grows limit within) j d h);
    }

pub returns-clause-passed : goal.returns-clause-passed
returns-clause-passed g c = λ i d e inside.
    c.loop-lane.invariant.gone i (omega (arith, inside, c.args.self.now.count, c.loop-lane-test.false)) d e inside

-- all have arrived
pub returns-clause-arrives : goal.returns-clause-arrives
returns-clause-arrives g c = λ j.
    let ps : List Platoon = c.args.self.now.ready.platoons.now in
    let all = take_all c.loop-lane.lane ps (omega (arith, c.args.self.now.count, c.loop-lane-test.false)) in
    omega (
      arith,
      c.loop-lane.invariant.arrives j,
      ap (sum_by (arrived c.args.step j)) all,
      ap (sum_by (arrived (c.args.step + 1) j)) all,
    )

pub returns-clause-grows : goal.returns-clause-grows
returns-clause-grows g c = λ limit within k d h.
    omega (arith, c.loop-lane.invariant.grows limit within k d h, c.loop-lane.auto.lane-end, c.args.self.now.count)
