-- The text of an answer that was judged is over the session before.
use Rattle.std.proofs.Common.{◌≡◌, ℕ, List, Option, None, Some, Result, Ok, is_some, if◌then◌else◌, Bool, true, false, refl}
use Rattle.std.specs.Option.{option_map_or}
use Rattle.transyt_syntax.specs.declared.code.Code.{Code}
use Rattle.transyt_syntax.specs.declared.code.Code.TheVariants as code
use Rattle.transyt_net.specs.declared.edit.EditFault.{EditFault}
use Rattle.transyt_net.specs.EditFaults.{edit_fault}
use Rattle.transyt_commands.specs.declared.command.Command.{Command}
use Rattle.transyt_commands.specs.declared.command.Command.TheVariants as c
use Rattle.transyt_commands.specs.Commands.{command_in}
use Rattle.transyt_session.specs.Session.{SessionValue}
use Rattle.transyt_line_answers.specs.declared.answer.Answer.{Answer}
use Rattle.transyt_line_answers.specs.declared.answer.Answer.TheVariants as a
use Rattle.transyt_line_answers.specs.Commands.{answer_text, answer_to, judged, said_answer, said_judged, line_answer, line_judged}
use Rattle.transyt_line_answers.specs.Refusals.{edit_code}

module _ (s t : SessionValue) where
  -- an edit's answer has no figure
  edit_said : (fault : Option EditFault) → let x = option_map_or (λ f. a.Refused (edit_code f)) fault a.Done in
      answer_text t x ≡ answer_text s x
  edit_said None = refl
  edit_said (Some f) = refl

  -- nor has one of two answers that have none
  either_said : (b : Bool) (x y : Answer) → answer_text t x ≡ answer_text s x → answer_text t y ≡ answer_text s y
      → answer_text t (if b then x else y) ≡ answer_text s (if b then x else y)
  either_said true x y h k = h
  either_said false x y h k = k

-- a command
command_said : (command : Command) (s : SessionValue)
    → answer_text (judged command s) (answer_to s command) ≡ answer_text s (answer_to s command)
command_said (c.Edit e) s = edit_said s (judged (c.Edit e) s) (edit_fault s.net e)
command_said c.Trial s = either_said s (judged c.Trial s) (is_some s.before) (a.Refused code.OpenTrial) a.Done refl refl
command_said c.Back s = either_said s (judged c.Back s) (is_some s.before) a.Done (a.Refused code.NoTrial) refl refl
command_said c.Keep s = either_said s (judged c.Keep s) (is_some s.before) a.Done (a.Refused code.NoTrial) refl refl
command_said (c.Request asked) s = refl

-- the text of a line
said_said : (said : Result (Option Command) Code) (s : SessionValue)
    → answer_text (said_judged said s) (said_answer s said) ≡ answer_text s (said_answer s said)
said_said (Ok (Some command)) s = command_said command s
said_said _ s = refl

-- a line
pub line_said : (s : SessionValue) (line : List ℕ)
    → answer_text (line_judged s line) (line_answer s line) ≡ answer_text s (line_answer s line)
line_said s line = said_said (command_in line) s
