-- A line adds its work, so that the work so far never falls.
use Rattle.std.proofs.Common.{ℕ, ◌≤◌, List, Option, Some, Result, Ok, is_some, if◌then◌else◌, Bool, true, false, arith}
use Rattle.transyt_syntax.specs.declared.code.Code.{Code}
use Rattle.transyt_commands.specs.declared.command.Command.{Command}
use Rattle.transyt_commands.specs.declared.command.Command.TheVariants as c
use Rattle.transyt_commands.specs.Commands.{command_in}
use Rattle.transyt_session.specs.Session.{SessionValue}
use Rattle.transyt_line_answers.specs.declared.answer.Answer.{Answer}
use Rattle.transyt_line_answers.specs.declared.answer.Answer.TheVariants as a
use Rattle.transyt_line_answers.specs.Commands.{judged, said_judged, after_answer, line_answer, line_judged, session_after}

-- a trial keeps the work
trial_work : (s : SessionValue) (is_open : Bool)
    → s.work ≤ (if is_open then s else record { net = s.net; before = Some s.net; work = s.work }).work
trial_work s true = omega arith
trial_work s false = omega arith

-- a command that is judged
judged_work : (command : Command) (s : SessionValue) → s.work ≤ (judged command s).work
judged_work c.Trial s = trial_work s (is_some s.before)
judged_work _ s = omega arith

-- the text of a line
said_work : (said : Result (Option Command) Code) (s : SessionValue) → s.work ≤ (said_judged said s).work
said_work (Ok (Some command)) s = judged_work command s
said_work _ s = omega arith

-- an answer that is carried out
carried_work : (answer : Answer) (s : SessionValue) → s.work ≤ (after_answer answer s).work
carried_work a.Climb s = omega arith
carried_work _ s = omega arith

-- a line adds to the work
pub line_more : (s : SessionValue) (line : List ℕ) → s.work ≤ (session_after s line).work
line_more s line =
    let judge = said_work (command_in line) s in
    let carry = carried_work (line_answer s line) (line_judged s line) in
    omega (arith, judge, carry)
