-- A worked brief, computed from the definitions, and its steps.
use Rattle.std.proofs.Common.{◌≡◌, ◌∙◌, ℕ, ◌+◌, ◌-◌, ◌*◌, List, [], ◌∷◌, ◌++◌, length, Some, codes, false, refl, arith}
use Rattle.std.specs.Fmt.{digits}
use Rattle.transyt_parts.specs.Parts.{PlanValue}
use Rattle.transyt_net.specs.Parts.{Network}
use Rattle.transyt_deck.specs.Deck.{Complete}
use Rattle.transyt_moves.specs.Moves.{move, move_count}
use Rattle.transyt_sweep.specs.Climb.{tried_at, lowers, moved, climb}
use Rattle.transyt_track.specs.Due.{work_of}
use Rattle.transyt_session.specs.Session.{opened}
use Rattle.transyt_climb.specs.WorkedTurns.{idle}
use Rattle.transyt_io.specs.Forms.{filled, form_line}
use Rattle.transyt_stage.specs.ThreeJunctions.{three_junctions}
use Rattle.transyt_sweep.proofs.WorkedFigures.{index_comes_out}
use Rattle.transyt_line_answers.proofs.WorkedCommands.{index_after}
use Rattle.transyt_line_answers.specs.WorkedCommands.{some_climb}
use Rattle.transyt_reporter.specs.Brief.{brief_form, brief_steps, brief_text, climbed_line}
use Rattle.transyt_reporter.specs.WorkedBrief.{climb_line}
use Rattle.transyt_line_answers.specs.Commands.{climb_of}
use Rattle.transyt_line_answers.specs.Report.{InSession, deck_steps, line_steps}

-- a network without links: no move lowers an index of 0
pub brief_is : brief_text idle ≡ codes "BRIEF 1 0 FROM 0 TOOK 0 LOCAL 6 TO 0" ++ 10 ∷ []
unfolding brief_text form_line filled digits climb move move_count tried_at lowers moved
brief_is = refl

-- work that is added to none
from_none : (all work : ℕ) → all + work ≡ all + ((0 + work) - 0)
from_none all work = omega arith

-- the steps of END and of CLIMB
pub steps_of_brief : (net : Network) (plan : PlanValue) (number : ℕ) → brief_steps (record net { plan = Some plan })
    ≡ deck_steps (Complete number (record net { plan = Some plan }))
    + line_steps (InSession (opened (record net { plan = Some plan }))) (codes "CLIMB")
steps_of_brief net plan number =
    from_none (net.frame.sweeps * length net.links) (work_of (climb_of (record net { plan = Some plan })).looks)

-- the line with both indexes in their places
abbrev line_with : ℕ → ℕ → List ℕ
line_with from to = form_line (brief_form false) (3 ∷ 8 ∷ from ∷ 2 ∷ 5 ∷ to ∷ [])

line_is : line_with 556223009 554272112 ≡ climb_line
unfolding form_line filled digits
line_is = refl

-- the line of a climb as a brief
pub brief_told : climbed_line three_junctions some_climb ≡ climb_line
brief_told = (λ j. line_with (index_comes_out j) (index_after j)) ∙ line_is
