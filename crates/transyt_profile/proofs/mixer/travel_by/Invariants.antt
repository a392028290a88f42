-- A profile goes by twice, step by step.
use Rattle.std.proofs.Common.{◌≡◌, ◌+◌, ◌*◌, ◌%◌, ◌<◌, length}
use Rattle.transyt_profile.specs.Platoon.{smoothed}
use Rattle.transyt_profile.specs.Passing.{Placed}
use Rattle.transyt_profile.proofs.mixer.travel_by.Given as goal

-- the value after i steps of the first turn
abbrev pub invariant-first : goal.invariant-first
invariant-first l = record {
  small : l.value < l.quick.most;
  here : l.value ≡ smoothed l.quick.journey.now.profile.now (l.quick.journey.now.spread.percent * l.quick.journey.now.spread.time) l.i;
}

-- the value after i steps of the second turn, and where it will stand; those before stand in their places
abbrev pub invariant-second : goal.invariant-second
invariant-second l = record {
  small : l.value < l.quick.most;
  here : l.value ≡ smoothed l.quick.journey.now.profile.now (l.quick.journey.now.spread.percent * l.quick.journey.now.spread.time) (length l.quick.journey.now.profile.now + l.i);
  place : l.place ≡ (l.i + l.quick.journey.now.spread.time) % length l.quick.journey.now.profile.now;
  placed : Placed l.quick.journey.now.profile.now l.out l.quick.journey.now.spread.time l.quick.journey.now.spread.percent l.i;
}
