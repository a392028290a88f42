-- Three rows of one link are printed one after the other.
use Rattle.transyt_io.proofs.PrintLaws.{prints_both, prints_front}
use Rattle.transyt_report.proofs.showing.print_profile.Goals as goal

-- one text after the other
pub returns : goal.returns
returns g c =
    prints_both _ _ _ c.in_ok-print_in.ensures (prints_both _ _ _ c.in_ok-print_go.ensures c.print_out.ensures)

-- a text that broke off
pub returns-in_err-print_in : goal.returns-in_err-print_in
returns-in_err-print_in g c = prints_front _ _ _ c.from_residual.ensures.0 c.in_err-print_in.ensures

pub returns-in_err-print_go : goal.returns-in_err-print_go
returns-in_err-print_go g c =
    prints_both _ _ _ c.in_ok-print_in.ensures
    (prints_front _ _ _ c.from_residual-in_err-print_go.ensures.0 c.in_err-print_go.ensures)
