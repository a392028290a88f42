-- Sweeps, computed from the definitions.
use Rattle.std.proofs.Common.{refl}
use Rattle.transyt_profile.specs.Platoon.{smoothed}
use Rattle.transyt_profile.specs.StopLine.{sum_back, greatest}
use Rattle.transyt_sweep.specs.Sweeps.{seen, out_of, evaluated}
use Rattle.transyt_sweep.proofs.laws.worked_sweeps.Goals as goal

pub returns : goal.returns
unfolding sum_back greatest smoothed seen out_of evaluated
returns c = record { ring = refl; itself = refl; later = refl; none = refl }
