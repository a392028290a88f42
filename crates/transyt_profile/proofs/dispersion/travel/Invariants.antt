-- A profile goes by twice, step by step.
use Rattle.std.proofs.Common.{◌≡◌, ◌+◌, ◌*◌, ◌%◌, ◌^◌, ◌<◌, length}
use Rattle.transyt_profile.specs.Platoon.{smoothed}
use Rattle.transyt_profile.specs.Passing.{Placed}
use Rattle.transyt_profile.proofs.dispersion.travel.Given as goal

-- the value after i steps of the first turn
abbrev pub invariant-first : goal.invariant-first
invariant-first l = record {
  small : l.value < 2 ^ 44;
  here : l.value ≡ smoothed l.journey.profile.now (l.journey.spread.percent * l.journey.spread.time) l.i;
}

-- the value after i steps of the second turn, and where it will stand; those before stand in their places
abbrev pub invariant-second : goal.invariant-second
invariant-second l = record {
  small : l.value < 2 ^ 44;
  here : l.value ≡ smoothed l.journey.profile.now (l.journey.spread.percent * l.journey.spread.time) (length l.journey.profile.now + l.i);
  place : l.place ≡ (l.i + l.journey.spread.time) % length l.journey.profile.now;
  placed : Placed l.journey.profile.now l.out l.journey.spread.time l.journey.spread.percent l.i;
}
