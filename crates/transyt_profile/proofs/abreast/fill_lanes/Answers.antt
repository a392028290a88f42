-- One platoon more is ready in its lane.
use Rattle.std.proofs.Common.{◌≡◌, ℕ, List, get_or, set, sum, ap, subst, sym, ◌∙◌, arith, get_or-set_same, get_or-set_other}
use Rattle.std.proofs.lemmas.List.{length-set}
use Rattle.transyt_profile.specs.Arriving.{sent}
use Rattle.transyt_profile.specs.Passing.{Fits, InLane}
use Rattle.transyt_profile.specs.declared.platoon.Platoon.{Platoon}
use Rattle.transyt_profile.proofs.Lanes.{first_more}
use Rattle.transyt_profile.proofs.abreast.fill_lanes.Goals as goal

-- this platoon has a value that does not fit
pub returns-in-None-clause-refused : goal.returns-in-None-clause-refused
returns-in-None-clause-refused c = λ no. (
  c.loop-number.number,
  c.index-platoons-number.result,
  c.loop-number-test.true,
  sym c.index-platoons-number.is,
  c.in-None.ensures.none,
)

pub loop-number-preserved : goal.loop-number-preserved
loop-number-preserved c =
    let ps : List Platoon = c.args.group.now.platoons.now in
    let p : Platoon = c.index-platoons-number.result in
    let k : ℕ = c.loop-number.number in
    let is : p ≡ get_or ps k p = c.index-platoons-number.is in
    let new : List ℕ = c.share_ready.new.lanes in
    let totals : List ℕ = c.loop-number.totals in
    let total : ℕ = c.in-Some.total in
    let few = c.args.group.now.few in
    record {
      len = length-set totals k total ∙ c.loop-number.invariant.len;
      fit = first_more (λ i q. Fits q) ps k p (subst Fits is c.in-Some.ensures.below) c.loop-number.invariant.fit;
      ready = first_more (λ i q. InLane i new q) ps k p (subst (InLane k new) is c.in-Some.ensures.ready)
          (λ i low d inside m h.
          c.share_ready.ensures.others m i (omega (arith, inside, few)) (λ taken. omega (arith, taken, low))
          ∙ c.loop-number.invariant.ready i low d inside m h);
      totals = first_more (λ i q. get_or (set totals k total) i 0 ≡ sum (sent q)) ps k p
          (get_or-set_same totals k total 0 (omega (arith, c.loop-number-test.true, few, c.loop-number.invariant.len))
          ∙ c.in-Some.ensures.total ∙ ap (λ q. sum (sent q)) is)
          (λ i low d inside.
          get_or-set_other totals k i total 0 (λ same. omega (arith, same, low))
          ∙ c.loop-number.invariant.totals i low d inside);
    }

-- all are ready
pub returns-clause-ready : goal.returns-clause-ready
returns-clause-ready c = λ yes. record {
  same = c.args.group.now.same;
  fit = λ i d inside. c.loop-number.invariant.fit i (omega (arith, inside)) d inside;
  ready = λ i d inside. c.loop-number.invariant.ready i (omega (arith, inside)) d inside;
}

pub returns-clause-totals : goal.returns-clause-totals
returns-clause-totals c = λ yes i d inside. c.loop-number.invariant.totals i (omega (arith, inside)) d inside
