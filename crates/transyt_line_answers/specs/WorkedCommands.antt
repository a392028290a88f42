-- Worked answers to commands over two junctions and three links, and a climb with its lines.
use Rattle.std.specs.Prelude.{ℕ, List, [], ◌∷◌, map, codes, None, Some, false}
use Rattle.transyt_syntax.specs.declared.code.Code.TheVariants as code
use Rattle.transyt_net.specs.declared.edit.Edit.TheVariants.{Offset, Change}
use Rattle.transyt_net.specs.Edits.{with_edit}
use Rattle.transyt_stage.specs.ThreeJunctions.{three_junctions}
use Rattle.transyt_commands.specs.declared.command.Command.{Command}
use Rattle.transyt_commands.specs.declared.command.Command.TheVariants as c
use Rattle.transyt_commands.specs.declared.command.Request.TheVariants as r
use Rattle.transyt_sweep.specs.Climb.{Climb}
use Rattle.transyt_sweep.specs.WorkedClimbs.{look}
use Rattle.transyt_session.specs.Session.{SessionValue}
use Rattle.transyt_session.specs.WorkedSessions.{begun, in_trial}
use Rattle.transyt_report.specs.declared.showing.Report.TheVariants as report
use Rattle.transyt_line_answers.specs.declared.answer.Answer.{Answer}
use Rattle.transyt_line_answers.specs.declared.answer.Answer.TheVariants as a
use Rattle.transyt_line_answers.specs.WorkedReports.{text_of}

-- a session of a network without a climb plan
abbrev pub without_plan : SessionValue
without_plan = record begun { net = record begun.net { plan = None } }

-- the same in a trial
abbrev pub trial_without_plan : SessionValue
trial_without_plan = record without_plan { before = Some begun.net }

-- a session, a command and its answer, in which a link is named by its place, from 0: with no trial, in a trial,
-- without a climb plan, and in a trial without one, which is refused as the trial
abbrev pub worked_answers : List (SessionValue × Command × Answer)
worked_answers =
    (begun, c.Request r.Climb, a.Climb)
    ∷ (begun, c.Request r.Cert, a.Cert)
    ∷ (begun, c.Request r.Index, a.Show report.Index)
    ∷ (begun, c.Request r.Links, a.Show report.Links)
    ∷ (begun, c.Request r.Figures, a.Show report.Figures)
    ∷ (in_trial, c.Request r.Figures, a.Show report.Figures)
    ∷ (begun, c.Request r.Timing, a.Show report.Timing)
    ∷ (begun, c.Request (r.Profile 9), a.Show (report.Profile 1))
    ∷ (begun, c.Request (r.Profile 8), a.Refused code.Unknown)
    ∷ (begun, c.Request (r.Plot 4), a.Plot 2)
    ∷ (begun, c.Request (r.Queue 4), a.Show (report.Queue 2))
    ∷ (begun, c.Request r.Chart, a.Show report.Chart)
    ∷ (in_trial, c.Request r.Chart, a.Show report.Chart)
    ∷ (begun, c.Request r.Work, a.Show report.Work)
    ∷ (begun, c.Request r.Deck, a.Deck)
    ∷ (begun, c.Request r.Stop, a.Stop)
    ∷ (in_trial, c.Request r.Cert, a.Refused code.OpenTrial)
    ∷ (without_plan, c.Request r.Climb, a.Refused code.NoPlan)
    ∷ (without_plan, c.Request r.Cert, a.Refused code.NoPlan)
    ∷ (trial_without_plan, c.Request r.Climb, a.Refused code.OpenTrial)
    ∷ (trial_without_plan, c.Request r.Cert, a.Refused code.OpenTrial)
    ∷ []

-- a climb of two steps and five places looked at
abbrev pub some_climb : Climb
some_climb = record {
  steps = record { place = 24; edit = Offset 21 17; index = 530008683 }
      ∷ record { place = 29; edit = Change 21 2 7; index = 521795021 } ∷ [];
  local = false;
  looks = map (look three_junctions) (24 ∷ 25 ∷ 26 ∷ 27 ∷ 28 ∷ []);
  net = with_edit three_junctions (Offset 21 8);
}

-- its lines
abbrev pub climb_lines : List ℕ
climb_lines =
    text_of (codes "TOOK 24 OFFSET 21 17 INDEX 530008683" ∷ codes "TOOK 29 CHANGE 21 2 7 INDEX 521795021"
    ∷ codes "BUDGET 5 INDEX 554272112" ∷ [])
