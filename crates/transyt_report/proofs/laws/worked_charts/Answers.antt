-- The worked charts, computed from the definitions.
use Rattle.std.proofs.Common.{refl}
use Rattle.std.specs.Fmt.{digits}
use Rattle.transyt_profile.specs.Platoon.{smoothed}
use Rattle.transyt_profile.specs.StopLine.{sum_back, greatest}
use Rattle.transyt_sweep.specs.Sweeps.{seen, out_of, evaluated}
use Rattle.transyt_io.specs.Forms.{filled, form_line}
use Rattle.transyt_report.specs.Chart.{chart_line, chart_end}
use Rattle.transyt_report.proofs.laws.worked_charts.Goals as goal

-- six steps
pub returns-clause-six : goal.returns-clause-six
unfolding chart_line filled digits
returns-clause-six c = refl

-- the three junctions
pub returns-clause-three : goal.returns-clause-three
unfolding chart_line chart_end form_line filled digits sum_back greatest smoothed seen out_of evaluated
returns-clause-three c = refl
