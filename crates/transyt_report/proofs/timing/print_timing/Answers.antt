-- The lines of the nodes and the last line are printed one after the other.
use Rattle.transyt_io.proofs.PrintLaws.{prints_both}
use Rattle.transyt_report.specs.Texts.{timing_end}
use Rattle.transyt_report.proofs.timing.print_timing.Goals as goal

-- one text after the other
pub returns : goal.returns
unfolding timing_end
returns g c = prints_both _ _ _ c.in_ok-print_parts.ensures c.print_form.ensures
