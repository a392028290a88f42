-- The two turns write the dispersed profile.
use Rattle.std.proofs.Common.{◌*◌, ◌∙◌, ap, sym, sum, length, arith, rules}
use Rattle.std.proofs.Math.Nat.{div-le_self}
use Rattle.transyt_profile.specs.Platoon.{smoothed}
use Rattle.transyt_profile.proofs.Mixing.{smoothed_none, step_first, step_placed, value_within}
use Rattle.transyt_profile.proofs.mixer.travel_by.Goals as goal

-- one step of the second turn, written in its place
pub second-preserved : goal.second-preserved
second-preserved c =
    let journey = c.args.quick.now.journey.now in
    let at = c.second.invariant in
    let more = step_placed journey.profile.now c.second.out journey.spread.time journey.spread.percent c.second.i c.second.place
    c.second.value _ _ (omega arith) (omega arith) at.here at.place at.placed (cc) c.after-place.ensures.value in
    record { small = omega arith; here = more.0; place = more.1; placed = more.2 }

-- the first turn begins with the mean
pub first-init : goal.first-init
first-init c =
    let journey = c.args.quick.now.journey.now in
    record {
      small = omega (arith, div-le_self (sum journey.profile.now) (length journey.profile.now));
      here = journey.is_mean ∙ sym (smoothed_none journey.profile.now (journey.spread.percent * journey.spread.time));
    }

-- one step of the first turn
pub first-preserved : goal.first-preserved
first-preserved c =
    let journey = c.args.quick.now.journey.now in
    record {
      small = omega arith;
      here = step_first journey.profile.now journey.spread.percent journey.spread.time _ c.first.i c.first.value _ (cc) (omega arith)
          c.first.invariant.here c.mix-value.ensures.value;
    }

-- the second turn begins where the first ends
pub second-init : goal.second-init
second-init c = record {
  small = c.first.invariant.small;
  here = c.first.invariant.here
      ∙ ap (smoothed c.args.quick.now.journey.now.profile.now (c.args.quick.now.journey.now.spread.percent * c.args.quick.now.journey.now.spread.time)) (omega arith);
  place = search rules;
  placed = λ m none. absurd (omega arith);
}

-- each value is within the sum of the profile
pub mix-value-requires-clause-starting : goal.mix-value-requires-clause-starting
mix-value-requires-clause-starting c =
    omega (arith, value_within c.args.quick.now.journey.now.profile.now c.first.i (omega arith))

pub mix-value-requires-in-second-clause-starting : goal.mix-value-requires-in-second-clause-starting
mix-value-requires-in-second-clause-starting c =
    omega (arith, value_within c.args.quick.now.journey.now.profile.now c.second.i (omega arith))
