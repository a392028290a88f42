-- The plot of a link, computed from the definitions.
use Rattle.std.proofs.Common.{◌≡◌, [], refl}
use Rattle.std.specs.Prelude.{slice_index_or}
use Rattle.transyt_profile.specs.Platoon.{smoothed}
use Rattle.transyt_profile.specs.StopLine.{sum_back, greatest}
use Rattle.transyt_stage.specs.ThreeJunctions.{three_junctions}
use Rattle.transyt_sweep.specs.Sweeps.{seen, out_of, evaluated}
use Rattle.transyt_sweep.specs.WorkedLinks.{arrivals_of_three, gos_of_three, outs_of_three}
use Rattle.transyt_report.specs.Plot.{plot_of, plot_text}

-- the plot of a link is that of its three profiles
pub fourth_is : plot_text three_junctions 3 ≡ plot_of 4 (slice_index_or arrivals_of_three 3 [])
    (slice_index_or gos_of_three 3 []) (slice_index_or outs_of_three 3 [])
unfolding sum_back greatest smoothed seen out_of evaluated
fourth_is = refl
