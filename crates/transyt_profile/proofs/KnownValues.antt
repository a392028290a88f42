-- The worked platoons, computed from the definitions.
use Rattle.std.proofs.Common.{◌≡◌, map, refl}
use Rattle.transyt_profile.specs.Platoon.{smoothed, dispersed}
use Rattle.transyt_profile.specs.WorkedPlatoons.{uneven, uneven_start, worked_platoons, pulse, worked_pulses}

-- the smoothing begins where it is written
pub starts : smoothed uneven 160 0 ≡ uneven_start
unfolding smoothed
starts = refl

-- each arrives as it is written
pub platoons : map (λ row. dispersed uneven row.0.0 row.0.1) worked_platoons ≡ map (λ row. row.1) worked_platoons
unfolding smoothed
platoons = refl

pub pulses : map (λ row. dispersed pulse row.0.0 row.0.1) worked_pulses ≡ map (λ row. row.1) worked_pulses
unfolding smoothed
pulses = refl
