-- The line of the node and those of its stages are printed one after the other.
use Rattle.transyt_io.proofs.PrintLaws.{prints_both}
use Rattle.transyt_report.proofs.timing.print_node.Goals as goal

-- one text after the other
pub returns : goal.returns
returns g c = prints_both _ _ _ c.in_ok-print_number.ensures c.print_parts.ensures
