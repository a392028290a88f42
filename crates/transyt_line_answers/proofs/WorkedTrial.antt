-- The worked trial, computed from the definitions.
use Rattle.std.proofs.Common.{◌≡◌, ◌++◌, codes, refl}
use Rattle.std.specs.Fmt.{digits}
use Rattle.transyt_profile.specs.Platoon.{smoothed}
use Rattle.transyt_profile.specs.StopLine.{sum_back, greatest}
use Rattle.transyt_sweep.specs.Sweeps.{seen, out_of, evaluated}
use Rattle.transyt_track.specs.Due.{differs, due_in, due_through, due}
use Rattle.transyt_io.specs.Forms.{filled, form_line, values_line, values_text}
use Rattle.transyt_report.specs.Texts.{in_line, go_line, out_line}
use Rattle.transyt_report.specs.Plot.{field, scale_line, step_line}
use Rattle.transyt_line_answers.specs.Commands.{done_text}
use Rattle.transyt_line_answers.specs.Report.{accepted, report}
use Rattle.transyt_line_answers.specs.WorkedReports.{text_of}
use Rattle.transyt_line_answers.specs.WorkedTrial.{two_junctions, trial_commands, trial_answers}

-- a deck, a plot and profiles in a trial
pub trial_reported : report (text_of (two_junctions (codes "4") ++ trial_commands)) ≡ text_of trial_answers
unfolding accepted done_text in_line go_line out_line field scale_line step_line form_line filled values_line values_text digits due due_through due_in differs evaluated seen out_of smoothed sum_back greatest
trial_reported = refl
