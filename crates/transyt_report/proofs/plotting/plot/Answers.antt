-- The first line, and the steps after it, of the profiles of the link's evaluation.
use Rattle.transyt_io.proofs.PrintLaws.{prints_both, prints_front, prints_same}
use Rattle.transyt_report.specs.Plot.{plot_of}
use Rattle.transyt_report.proofs.plotting.plot.Goals as goal

-- one text after the other
pub returns : goal.returns
returns g c =
    let is = c.link_plot-here.ensures in
    prints_same _ _ _ _ _ (prints_both _ _ _ c.in_ok-print_scale.ensures c.print_parts.ensures)
    (λ j. plot_of (is.number j) (is.arrivals j) (is.go j) (is.out j))

-- a text that broke off
pub returns-in_err-print_scale : goal.returns-in_err-print_scale
returns-in_err-print_scale g c =
    let is = c.link_plot-here.ensures in
    prints_same _ _ _ _ _ (prints_front _ _ _ c.from_residual.ensures.0 c.in_err-print_scale.ensures)
    (λ j. plot_of (is.number j) (is.arrivals j) (is.go j) (is.out j))
