-- The worked reports, computed from the definitions.
use Rattle.std.proofs.Common.{◌≡◌, ℕ, List, [], ◌∷◌, ◌++◌, map, refl, ap, ◌∙◌, lit<, arith}
use Rattle.std.specs.List.{range_with_len}
use Rattle.std.specs.Fmt.{digits}
use Rattle.transyt_delay.specs.declared.figures.Figures.{Figures}
use Rattle.transyt_profile.specs.Platoon.{smoothed}
use Rattle.transyt_profile.specs.StopLine.{sum_back, greatest}
use Rattle.transyt_stage.specs.ThreeJunctions.{three_junctions}
use Rattle.transyt_sweep.specs.Sweeps.{seen, out_of, evaluated, index}
use Rattle.transyt_sweep.specs.WorkedLinks.{figures_of_three}
use Rattle.transyt_sweep.proofs.WorkedFigures.{figures_come_out, index_comes_out}
use Rattle.transyt_io.specs.Forms.{filled, form_line, values_line, values_text}
use Rattle.transyt_report.specs.declared.showing.Report.TheVariants as r
use Rattle.transyt_report.specs.Texts.{figures_line, in_line, index_line, go_line, node_line, out_line, queue_line}
use Rattle.transyt_report.specs.Texts.{report_text, stage_line, timing_end, IsOfPlace}
use Rattle.transyt_report.specs.WorkedTexts.{links_of_three}
use Rattle.transyt_report.proofs.Worked.{index_is, work_is, lines_by}
use Rattle.transyt_report.proofs.laws.worked_reports.Goals as goal

-- INDEX
pub returns-clause-index : goal.returns-clause-index
returns-clause-index c = ap index_line index_comes_out ∙ index_is

-- LINKS of these figures and index
abbrev told_by : List Figures → ℕ → List ℕ
told_by fs x = lines_by figures_line (5 ∷ 2 ∷ 9 ∷ 4 ∷ 8 ∷ 3 ∷ 6 ∷ 11 ∷ []) fs ++ index_line x

links_by : told_by figures_of_three 556223009 ≡ links_of_three
unfolding figures_line index_line form_line filled digits
links_by = refl

-- the lines are those of each link's figures
lines_are : report_text three_junctions 1378 r.Links
    ≡ told_by (map (λ l. (evaluated three_junctions l).figures) (range_with_len 0 8)) (index three_junctions)
lines_are = refl

-- LINKS
pub returns-clause-links : goal.returns-clause-links
returns-clause-links c = lines_are ∙ ((λ j. told_by (figures_come_out j) (index_comes_out j)) ∙ links_by)

-- TIMING
pub returns-clause-timing : goal.returns-clause-timing
unfolding node_line stage_line timing_end form_line filled digits
returns-clause-timing c = refl

-- PROFILE
pub returns-clause-profile : goal.returns-clause-profile
unfolding in_line go_line out_line values_line values_text filled digits sum_back greatest smoothed seen out_of evaluated
returns-clause-profile c = refl

-- QUEUE
pub returns-clause-queue : goal.returns-clause-queue
unfolding queue_line values_line values_text filled digits sum_back greatest smoothed seen out_of evaluated
returns-clause-queue c = refl

-- the last place, and one past it
pub returns-clause-last_place : goal.returns-clause-last_place
returns-clause-last_place c = (lit< tt, lit< tt)

pub returns-clause-no_place : goal.returns-clause-no_place
returns-clause-no_place c = (
  λ (p : IsOfPlace three_junctions (r.Profile 8)). absurd (omega (arith, p)),
  λ (p : IsOfPlace three_junctions (r.Queue 8)). absurd (omega (arith, p)),
)

-- WORK
pub returns-clause-work : goal.returns-clause-work
returns-clause-work c = work_is
