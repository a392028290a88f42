-- The worked reports, computed from the definitions.
use Rattle.std.proofs.Common.{◌≡◌, ◌++◌, [], ◌∷◌, codes, refl}
use Rattle.std.specs.Fmt.{digits}
use Rattle.transyt_outcome.specs.Runs.{answers_by}
use Rattle.transyt_profile.specs.Platoon.{smoothed}
use Rattle.transyt_profile.specs.StopLine.{sum_back, greatest}
use Rattle.transyt_moves.specs.Moves.{move, move_count}
use Rattle.transyt_sweep.specs.Sweeps.{seen, out_of, evaluated}
use Rattle.transyt_sweep.specs.Climb.{tried_at, lowers, moved, climb}
use Rattle.transyt_track.specs.Due.{differs, due_in, due_through, due}
use Rattle.transyt_io.specs.Forms.{filled, form_line, values_line, values_text}
use Rattle.transyt_report.specs.Texts.{index_line, node_line, queue_line, stage_line, timing_end, work_line}
use Rattle.transyt_line_answers.specs.Commands.{done_text, refused_text}
use Rattle.transyt_line_answers.specs.Report.{accepted, card_refused, deck_answering, report}
use Rattle.transyt_line_answers.specs.WorkedReports.{answers, climb_answers, climb_commands, commands, no_link, one_link}
use Rattle.transyt_line_answers.specs.WorkedReports.{taken_number, text_of, without_end}

-- a deck without END
pub end_missing : report (text_of without_end) ≡ codes "CARD 4 REFUSED 21" ++ 10 ∷ []
unfolding card_refused form_line filled digits
end_missing = refl

-- a deck that is refused
pub card_refused_at : report (text_of taken_number) ≡ codes "CARD 4 REFUSED 16" ++ 10 ∷ []
unfolding card_refused form_line filled digits
card_refused_at = refl

-- the steps of END, of an edit and of a trial
pub steps_of_commands : (answers_by deck_answering (one_link ++ commands)).steps ≡ 8
unfolding due due_through due_in differs seen out_of smoothed sum_back greatest
steps_of_commands = refl

-- edits, a trial and reports
pub commands_reported : report (text_of (one_link ++ commands)) ≡ text_of answers
unfolding accepted done_text refused_text queue_line node_line stage_line timing_end work_line form_line filled values_line values_text digits due due_through due_in differs evaluated seen out_of smoothed sum_back greatest
commands_reported = refl

-- a refused card has none
pub steps_of_refused : (answers_by deck_answering taken_number).steps ≡ 0
steps_of_refused = refl

-- a climb and a certificate
pub climb_reported : report (text_of (no_link ++ climb_commands)) ≡ text_of climb_answers
unfolding accepted done_text index_line work_line form_line filled digits climb move move_count tried_at lowers moved due due_through due_in
climb_reported = refl
