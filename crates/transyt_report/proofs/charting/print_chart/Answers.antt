-- The lines of the links and the last line are printed one after the other.
use Rattle.transyt_io.proofs.PrintLaws.{prints_both}
use Rattle.transyt_report.specs.Chart.{chart_end}
use Rattle.transyt_report.proofs.charting.print_chart.Goals as goal

-- one text after the other
pub returns : goal.returns
unfolding chart_end
returns g c = prints_both _ _ _ c.in_ok-print_parts.ensures c.print_form.ensures
