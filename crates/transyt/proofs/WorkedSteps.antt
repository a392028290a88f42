-- The steps of words, by their definitions.
use Rattle.std.proofs.Common.{ℕ, List, Option, None, refl, lit≤, arith}
use Rattle.transyt_make.specs.Made.{made}
use Rattle.transyt_outcome.specs.Runs.{StepsTaken}
use Rattle.transyt_outcome.specs.declared.status.Status.{Status}
use Rattle.transyt_outcome.specs.declared.status.Status.TheVariants.{Done, WriteFault}
use Rattle.transyt_reporter.specs.Brief.{brief_steps}
use Rattle.transyt_line_answers.specs.Report.{deck_answering}
use Rattle.transyt.specs.declared.town.Town.{Town}
use Rattle.transyt.specs.declared.word.Word.TheVariants as w
use Rattle.transyt.specs.Tasks.{TextSteps}
use Rattle.transyt.specs.Words.{WordSteps}

-- a text that was written took its own steps
pub all_written : TextSteps 16 40 56 Done
all_written = refl

-- any other took as many at most
pub at_most : TextSteps 16 40 56 WriteFault
at_most = lit≤ tt

-- and not one more
pub one_too_many : TextSteps 16 40 57 WriteFault → ⊥
one_too_many more = absurd (omega (arith, more))

-- one worker's steps are told
pub run_by_one : (left left_new : Option (List ℕ)) (steps steps_new : ℕ) (status : Status)
    → WordSteps (w.Run 1) left left_new steps steps_new status
    → StepsTaken deck_answering left left_new steps steps_new status
run_by_one left left_new steps steps_new status told = told refl

-- those of two are not
pub run_by_two : WordSteps (w.Run 2) None None 40 7 Done
run_by_two one = absurd (omega (arith, one))

-- one worker's steps of a brief are those of its text
pub brief_by_one : (town : Town) (left left_new : Option (List ℕ)) (steps steps_new : ℕ) (status : Status)
    → WordSteps (w.Brief town 1) left left_new steps steps_new status
    → TextSteps (brief_steps (made town.seed town.nodes)) steps steps_new status
brief_by_one town left left_new steps steps_new status told = told refl

-- those of two are not told
pub brief_by_two : WordSteps (w.Brief (record { seed = 7; nodes = 1 }) 2) None None 40 7 Done
brief_by_two one = absurd (omega (arith, one))
