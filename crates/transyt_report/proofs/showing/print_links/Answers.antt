-- The lines of the links and the index are printed one after the other.
use Rattle.transyt_io.proofs.PrintLaws.{prints_both}
use Rattle.transyt_report.proofs.showing.print_links.Goals as goal

-- one text after the other
pub returns : goal.returns
returns g c = prints_both _ _ _ c.in_ok-print_parts.ensures c.print_index.ensures
