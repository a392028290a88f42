-- The lines of the links and the line of the network are printed one after the other.
use Rattle.transyt_io.proofs.PrintLaws.{prints_both}
use Rattle.transyt_report.proofs.figures.print_report.Goals as goal

-- one text after the other
pub returns : goal.returns
returns g c = prints_both _ _ _ c.in_ok-print_parts.ensures c.print_total.ensures
