-- The worked figures in the units of an engineer, computed from the definitions.
use Rattle.std.proofs.Common.{◌≡◌, ℕ, ◌+◌, List, ◌++◌, map, sum, refl, ◌∙◌}
use Rattle.std.specs.List.{range_with_len}
use Rattle.std.specs.Fmt.{digits}
use Rattle.transyt_delay.specs.declared.figures.Figures.{Figures}
use Rattle.transyt_profile.specs.Platoon.{smoothed}
use Rattle.transyt_profile.specs.StopLine.{sum_back, greatest}
use Rattle.transyt_stage.specs.ThreeJunctions.{three_junctions}
use Rattle.transyt_sweep.specs.Sweeps.{seen, out_of, evaluated, index}
use Rattle.transyt_sweep.specs.WorkedLinks.{figures_of_three}
use Rattle.transyt_sweep.proofs.WorkedFigures.{figures_come_out, index_comes_out}
use Rattle.transyt_io.specs.Forms.{filled, form_line}
use Rattle.transyt_report.specs.Measures.{all_arrivals, link_figures, mean_delay, network_figures, part_stopped}
use Rattle.transyt_report.specs.Measures.{figures_report, link_figures_line, total_line}
use Rattle.transyt_report.specs.WorkedMeasures.{report_of_three}
use Rattle.transyt_report.proofs.Worked.{lines_by}
use Rattle.transyt_report.proofs.laws.worked_measures.Goals as goal

-- degrees of saturation
pub returns-clause-degrees : goal.returns-clause-degrees
returns-clause-degrees c = refl

-- mean delays
pub returns-clause-delays : goal.returns-clause-delays
returns-clause-delays c = refl

-- vehicles that stop
pub returns-clause-stops : goal.returns-clause-stops
returns-clause-stops c = refl

-- the worst of links
pub returns-clause-worst : goal.returns-clause-worst
returns-clause-worst c = refl

-- flows that are sent on
pub returns-clause-sent : goal.returns-clause-sent
returns-clause-sent c = refl

-- a link whose queue is greatest at step 0
pub returns-clause-longest : goal.returns-clause-longest
unfolding sum_back greatest smoothed seen out_of evaluated
returns-clause-longest c = refl

-- the line of the link at a place, with these figures in place of its own
abbrev line_with : ℕ → Figures → List ℕ
line_with l f = link_figures_line (record (link_figures three_junctions l) {
  delay = mean_delay 90 (f.uniform + f.random) (all_arrivals three_junctions l);
  stopped = part_stopped 90 f.stops (all_arrivals three_junctions l);
})

-- FIGURES of these figures and index
abbrev told_by : List Figures → ℕ → List ℕ
told_by fs x =
    lines_by line_with (range_with_len 0 8) fs
    ++ total_line (record (network_figures three_junctions) {
      delay = sum (map (λ (f : Figures). f.uniform + f.random) fs);
      stops = sum (map (λ (f : Figures). f.stops) fs);
      index = x;
    })

told_is : told_by figures_of_three 556223009 ≡ report_of_three
unfolding link_figures_line total_line form_line filled digits sum_back greatest smoothed seen out_of evaluated
told_is = refl

-- the lines are those of each link's figures
lines_are : figures_report three_junctions
    ≡ told_by (map (λ l. (evaluated three_junctions l).figures) (range_with_len 0 8)) (index three_junctions)
lines_are = refl

-- FIGURES
pub returns-clause-report : goal.returns-clause-report
returns-clause-report c = lines_are ∙ ((λ j. told_by (figures_come_out j) (index_comes_out j)) ∙ told_is)
