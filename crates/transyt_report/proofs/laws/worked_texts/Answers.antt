-- The worked texts, computed from the definitions.
use Rattle.std.proofs.Common.{refl}
use Rattle.std.specs.Fmt.{digits}
use Rattle.transyt_io.specs.Forms.{filled, form_line}
use Rattle.transyt_report.specs.Texts.{figures_line, node_line, stage_line, timing_end}
use Rattle.transyt_report.proofs.Worked.{index_is, work_is}
use Rattle.transyt_report.proofs.laws.worked_texts.Goals as goal

-- a link
pub returns-clause-figures : goal.returns-clause-figures
unfolding figures_line form_line filled digits
returns-clause-figures c = refl

-- a node of two stages
pub returns-clause-two : goal.returns-clause-two
unfolding node_line stage_line form_line filled digits
returns-clause-two c = refl

-- a node of three stages
pub returns-clause-three : goal.returns-clause-three
unfolding node_line stage_line form_line filled digits
returns-clause-three c = refl

-- the end of TIMING
pub returns-clause-timing : goal.returns-clause-timing
unfolding timing_end form_line filled
returns-clause-timing c = refl

-- a step of an offset
pub returns-clause-offset : goal.returns-clause-offset
unfolding form_line filled digits
returns-clause-offset c = refl

-- a step of a change
pub returns-clause-change : goal.returns-clause-change
unfolding form_line filled digits
returns-clause-change c = refl

-- a climb's end where no move lowers the index
pub returns-clause-local : goal.returns-clause-local
unfolding form_line filled digits
returns-clause-local c = refl

-- a climb's end by its budget
pub returns-clause-budget : goal.returns-clause-budget
unfolding form_line filled digits
returns-clause-budget c = refl

-- an index, and the work so far
pub returns-clause-index : goal.returns-clause-index
returns-clause-index c = index_is

pub returns-clause-work : goal.returns-clause-work
returns-clause-work c = work_is
