-- A session after a line has the shape that it had before.
use Rattle.std.proofs.Common.{Option, None, Some, Result, Ok}
use Rattle.std.proofs.Common.{Bool, true, false, IfSome, is_some, if◌then◌else◌, refl, sym, ◌∙◌}
use Rattle.transyt_net.specs.Parts.{Network, SameShape}
use Rattle.transyt_net.specs.declared.edit.Edit.{Edit}
use Rattle.transyt_net.specs.declared.edit.EditFault.{EditFault}
use Rattle.transyt_net.specs.EditFaults.{edit_fault}
use Rattle.transyt_net.proofs.KeptLaws.{shape_kept}
use Rattle.transyt_session.specs.Session.{SessionValue, edited_net, net_with, net_before}
use Rattle.transyt_commands.specs.declared.command.Command.{Command}
use Rattle.transyt_commands.specs.declared.command.Command.TheVariants as c
use Rattle.transyt_syntax.specs.declared.code.Code.{Code}
use Rattle.transyt_line_answers.specs.Commands.{judged, said_judged}

-- the shape of a session after a line: that of the session before, and of the network before an open trial
pub record KeepsShape (old new : SessionValue) : Type 0 where
  pub net : SameShape old.net new.net
  pub before : IfSome new.before (λ n. SameShape new.net n)

-- the same of another network of one shape
shape_on : (a b : Network) (o : Option Network) → SameShape a b → IfSome o (λ n. SameShape a n)
    → IfSome o (λ n. SameShape b n)
shape_on a b None one h = tt
shape_on a b (Some n) one h = sym one ∙ h

-- an edit keeps the shape
keeps_edit : (net : Network) (e : Edit) (fault : Option EditFault) → SameShape net (net_with net e fault)
keeps_edit net e None = sym (shape_kept net e)
keeps_edit net e (Some fault) = refl

-- and so does a trial that is taken back
keeps_back : (net : Network) (o : Option Network) → IfSome o (λ n. SameShape net n) → SameShape net (net_before o net)
keeps_back net None h = refl
keeps_back net (Some n) h = h

-- and one that is opened
keeps_trial : (s : SessionValue) (is_open : Bool) → IfSome s.before (λ n. SameShape s.net n)
    → KeepsShape s (if is_open then s else record { net = s.net; before = Some s.net; work = s.work })
keeps_trial s true h = record { net = refl; before = h }
keeps_trial s false h = record { net = refl; before = refl }

-- a command keeps it
keeps_command : (command : Command) (s : SessionValue) → IfSome s.before (λ n. SameShape s.net n)
    → KeepsShape s (judged command s)
keeps_command (c.Edit e) s h =
    let net = keeps_edit s.net e (edit_fault s.net e) in
    record { net = net; before = shape_on s.net (edited_net s.net e) s.before net h }
keeps_command c.Trial s h = keeps_trial s (is_some s.before) h
keeps_command c.Back s h = record { net = keeps_back s.net s.before h; before = tt }
keeps_command c.Keep s h = record { net = refl; before = tt }
keeps_command (c.Request asked) s h = record { net = refl; before = h }

-- and so does a line
pub keeps_said : (said : Result (Option Command) Code) (s : SessionValue) → IfSome s.before (λ n. SameShape s.net n)
    → KeepsShape s (said_judged said s)
keeps_said (Ok (Some command)) s h = keeps_command command s h
keeps_said _ s h = record { net = refl; before = h }
