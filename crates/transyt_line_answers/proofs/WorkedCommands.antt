-- The worked answers to commands, computed from the definitions.
use Rattle.std.proofs.Common.{◌≡◌, ℕ, List, ◌++◌, Option, false, refl, ap, ◌∙◌}
use Rattle.std.specs.Fmt.{digits}
use Rattle.transyt_profile.specs.Platoon.{smoothed}
use Rattle.transyt_profile.specs.StopLine.{sum_back, greatest}
use Rattle.transyt_net.specs.declared.edit.Edit.TheVariants.{Offset}
use Rattle.transyt_net.specs.Edits.{with_edit}
use Rattle.transyt_moves.specs.Moves.{move, move_count}
use Rattle.transyt_stage.specs.ThreeJunctions.{three_junctions}
use Rattle.transyt_sweep.specs.Sweeps.{seen, out_of, index}
use Rattle.transyt_track.specs.Due.{differs, due_in, due_through, due}
use Rattle.transyt_net.specs.Parts.{Network}
use Rattle.transyt_session.specs.Session.{SessionValue}
use Rattle.transyt_session.specs.WorkedSessions.{begun}
use Rattle.transyt_climb.proofs.WorkedLaws as turns
use Rattle.transyt_io.specs.Forms.{filled, form_line}
use Rattle.transyt_report.specs.Texts.{end_text}
use Rattle.transyt_line_answers.specs.declared.answer.Answer.{Answer}
use Rattle.transyt_line_answers.specs.declared.answer.Answer.TheVariants as a
use Rattle.transyt_line_answers.specs.Commands.{after_answer, answer_text, climb_text, steps_text}
use Rattle.transyt_line_answers.specs.WorkedCommands.{climb_lines, some_climb}

-- the work of a certificate is added
pub certified : after_answer a.Cert begun ≡ record begun { work = 71 }
unfolding sum_back greatest smoothed seen out_of differs due_in due_through due move move_count
certified = refl

-- the text of an answer is of the network now
pub of_now : (s : SessionValue) (before : Option Network) (answer : Answer)
    → answer_text (record s { before = before }) answer ≡ answer_text s answer
of_now s before a.Climb = refl
of_now s before _ = refl

-- the index of the three junctions after their first move
pub index_after : index (with_edit three_junctions (Offset 21 8)) ≡ 554272112
index_after = turns.index_after

-- the lines with the index in its place
abbrev lines_with : ℕ → List ℕ
lines_with x = steps_text some_climb.steps ++ end_text false 5 x

lines_are : lines_with 554272112 ≡ climb_lines
unfolding form_line filled digits
lines_are = refl

-- the lines of a climb
pub climb_told : climb_text some_climb ≡ climb_lines
climb_told = ap lines_with index_after ∙ lines_are
