-- The answer to a command over a session, its text, and the session after it.
use Rattle.std.specs.Prelude.{ℕ, ◌++◌, List, [], ◌∷◌, Option, Some, None, Result, Ok, Err, is_some, codes}
use Rattle.std.specs.Prelude.{flat_map, length, if◌then◌else◌}
use Rattle.std.specs.Option.{option_map_or}
use Rattle.transyt_syntax.specs.declared.code.Code.{Code}
use Rattle.transyt_syntax.specs.declared.code.Code.TheVariants as code
use Rattle.transyt_syntax.specs.Codes.{number}
use Rattle.transyt_parts.specs.Parts.{PlanValue}
use Rattle.transyt_net.specs.Parts.{Network}
use Rattle.transyt_net.specs.Valid.{place_of, link_numbers}
use Rattle.transyt_net.specs.EditFaults.{edit_fault}
use Rattle.transyt_deck.specs.Cards.{deck_text}
use Rattle.transyt_commands.specs.declared.command.Command.{Command}
use Rattle.transyt_commands.specs.declared.command.Command.TheVariants as c
use Rattle.transyt_commands.specs.declared.command.Request.{Request}
use Rattle.transyt_commands.specs.declared.command.Request.TheVariants as r
use Rattle.transyt_commands.specs.Commands.{command_in}
use Rattle.transyt_moves.specs.Moves.{move_count}
use Rattle.transyt_sweep.specs.Sweeps.{index}
use Rattle.transyt_sweep.specs.Climb.{Step, Climb, climb}
use Rattle.transyt_track.specs.Due.{cert_work}
use Rattle.transyt_session.specs.Session.{SessionValue, edited, trial_of, back_of, keep_of, credited}
use Rattle.transyt_climb.specs.Way.{climbed}
use Rattle.transyt_audit.specs.Certificate.{cert_text}
use Rattle.transyt_io.specs.Forms.{form_line}
use Rattle.transyt_report.specs.declared.showing.Report.TheVariants as report
use Rattle.transyt_report.specs.Texts.{took_text, end_text, report_text}
use Rattle.transyt_report.specs.Plot.{plot_text}
use Rattle.transyt_line_answers.specs.declared.answer.Answer.{Answer}
use Rattle.transyt_line_answers.specs.declared.answer.Answer.TheVariants as a
use Rattle.transyt_line_answers.specs.Refusals.{edit_code}

-- the answer about the link of this number, or that there is none
abbrev pub about_link : Network → ℕ → (ℕ → Answer) → Answer
about_link net number answer = option_map_or answer (place_of (link_numbers net.links) number) (a.Refused code.Unknown)

-- the answer to CLIMB or CERT, or its refusal: a trial is open, or there is no climb plan
abbrev pub planned : SessionValue → Answer → Answer
planned s answer =
    if is_some s.before then a.Refused code.OpenTrial
    else if is_some s.net.plan then answer
    else a.Refused code.NoPlan

-- the answer to a request
abbrev pub requested : SessionValue → Request → Answer
requested s r.Climb = planned s a.Climb
requested s r.Cert = planned s a.Cert
requested s r.Index = a.Show report.Index
requested s r.Links = a.Show report.Links
requested s r.Figures = a.Show report.Figures
requested s r.Timing = a.Show report.Timing
requested s (r.Profile link) = about_link s.net link (λ place. a.Show (report.Profile place))
requested s (r.Plot link) = about_link s.net link a.Plot
requested s (r.Queue link) = about_link s.net link (λ place. a.Show (report.Queue place))
requested s r.Chart = a.Show report.Chart
requested s r.Work = a.Show report.Work
requested s r.Deck = a.Deck
requested s r.Stop = a.Stop

-- the answer to a command
abbrev pub answer_to : SessionValue → Command → Answer
answer_to s (c.Edit e) = option_map_or (λ fault. a.Refused (edit_code fault)) (edit_fault s.net e) a.Done
answer_to s c.Trial = if is_some s.before then a.Refused code.OpenTrial else a.Done
answer_to s c.Back = if is_some s.before then a.Done else a.Refused code.NoTrial
answer_to s c.Keep = if is_some s.before then a.Done else a.Refused code.NoTrial
answer_to s (c.Request asked) = requested s asked

-- the session when a command was judged: an edit and the commands of a trial are carried out
abbrev pub judged : Command → SessionValue → SessionValue
judged (c.Edit e) s = edited e s
judged c.Trial s = trial_of s
judged c.Back s = back_of s
judged c.Keep s = keep_of s
judged (c.Request asked) s = s

-- how many places the climb plan lets a climb look at; none without a plan
abbrev pub budget_of : Option PlanValue → ℕ
budget_of plan = option_map_or (λ (p : PlanValue). p.budget) plan 0

-- the climb of a network by its plan
abbrev pub climb_of : Network → Climb
climb_of net = climb net 0 (budget_of net.plan)

-- the session after an answer: a climb leaves the network at its end, and a climb and a certificate add their work
abbrev pub after_answer : Answer → SessionValue → SessionValue
after_answer a.Climb s = climbed (budget_of s.net.plan) s
after_answer a.Cert s = credited (cert_work s.net (move_count s.net)) s
after_answer _ s = s

-- the lines of the steps of a climb
abbrev pub steps_text : List Step → List ℕ
steps_text steps = flat_map (λ (step : Step). took_text step.place step.edit step.index) steps

-- the text of a climb: a line for each step, and its end
abbrev pub climb_text : Climb → List ℕ
climb_text climb = steps_text climb.steps ++ end_text climb.local (length climb.looks) (index climb.net)

-- the line of an accepted edit, TRIAL, BACK or KEEP
unfoldable pub done_text : List ℕ
done_text = form_line (codes "DONE") []

-- the line of a refused command
unfoldable pub refused_text : Code → List ℕ
refused_text code = form_line (codes "REFUSED #") (number code ∷ [])

-- the text of an answer; STOP and a line without a command have none
abbrev pub answer_text : SessionValue → Answer → List ℕ
answer_text s a.Done = done_text
answer_text s (a.Refused code) = refused_text code
answer_text s (a.Show what) = report_text s.net s.work what
answer_text s (a.Plot place) = plot_text s.net place
answer_text s a.Deck = deck_text s.net
answer_text s a.Climb = climb_text (climb_of s.net)
answer_text s a.Cert = cert_text s.net
answer_text s _ = []

-- the answer to a line, by its meaning
abbrev pub said_answer : SessionValue → Result (Option Command) Code → Answer
said_answer s (Err code) = a.Refused code
said_answer s (Ok None) = a.Nothing
said_answer s (Ok (Some command)) = answer_to s command

-- the answer to a line
abbrev pub line_answer : SessionValue → List ℕ → Answer
line_answer s line = said_answer s (command_in line)

-- the session when the command of a line was judged, if there is one
abbrev pub said_judged : Result (Option Command) Code → SessionValue → SessionValue
said_judged (Ok (Some command)) s = judged command s
said_judged _ s = s

-- the session when a line was judged
abbrev pub line_judged : SessionValue → List ℕ → SessionValue
line_judged s line = said_judged (command_in line) s

-- the session after a line
abbrev pub session_after : SessionValue → List ℕ → SessionValue
session_after s line = after_answer (line_answer s line) (line_judged s line)
