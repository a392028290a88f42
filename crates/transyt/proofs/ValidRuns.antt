-- The network after lines is valid, so each climb of it descends.
use Rattle.std.proofs.Common.{◌≡◌, ℕ, Bool, true, false, List, [], ◌∷◌, Option, None, Some, IfSome, Result, Ok}
use Rattle.std.proofs.Common.{is_some, if◌then◌else◌, refl, subst, sym}
use Rattle.std.specs.List.{fold}
use Rattle.transyt_net.specs.declared.edit.Edit.{Edit}
use Rattle.transyt_net.specs.declared.edit.EditFault.{EditFault}
use Rattle.transyt_net.specs.Parts.{Network}
use Rattle.transyt_net.specs.Valid.{IsValid}
use Rattle.transyt_net.specs.EditFaults.{edit_fault}
use Rattle.transyt_net.specs.Edits.{with_edit}
use Rattle.transyt_net.proofs.ApplyLaws.{valid_edit}
use Rattle.transyt_syntax.specs.declared.code.Code.{Code}
use Rattle.transyt_deck.specs.Deck.{Deck, Complete, next, start}
use Rattle.transyt_commands.specs.declared.command.Command.{Command}
use Rattle.transyt_commands.specs.declared.command.Command.TheVariants as c
use Rattle.transyt_commands.specs.Commands.{command_in}
use Rattle.transyt_sweep.specs.Climb.{Step, climb}
use Rattle.transyt_session.specs.Session.{SessionValue, net_with, net_before}
use Rattle.transyt_climb.proofs.LocalLaws.{local_climb}
use Rattle.transyt_line_answers.specs.declared.answer.Answer.{Answer}
use Rattle.transyt_line_answers.specs.declared.answer.Answer.TheVariants as a
use Rattle.transyt_line_answers.specs.Commands.{judged, said_judged, line_answer, line_judged, after_answer, budget_of, climb_of}
use Rattle.transyt_line_answers.specs.Report.{RunState, InDeck, InSession, run_of, run_after, run_state}
use Rattle.transyt_line_answers.specs.Steps.{LeadDown}
use Rattle.transyt_line_answers.proofs.StepLaws.{climb_leads}
use Rattle.transyt.specs.Reports.{ClimbDescends}
use Rattle.transyt.proofs.BudgetLaws.{climb_spent}
use Rattle.transyt.proofs.DeckLaws.{IsDeck, next_is}

-- the network of a session, and the one before an open trial, are valid
record IsSession (s : SessionValue) : Type 0 where
  net : IsValid s.net
  before : IfSome s.before IsValid

-- and so is what lines have come to
abbrev IsValidRun : RunState → Type 0
IsValidRun (InDeck deck) = IsDeck deck
IsValidRun (InSession s) = IsSession s

-- an edit leaves a valid network
edited_is : (net : Network) (e : Edit) (o : Option EditFault) → edit_fault net e ≡ o → IsValid net
    → IsValid (net_with net e o)
edited_is net e None is h = valid_edit net e h is
edited_is net e (Some fault) is h = h

back_is : (o : Option Network) (net : Network) → IfSome o IsValid → IsValid net → IsValid (net_before o net)
back_is None net h k = k
back_is (Some before) net h k = h

-- the steps of a climb lead to a valid network
led_is : (net : Network) (steps : List Step) (last : Network) → IsValid net → LeadDown net steps last → IsValid last
led_is net [] last h led = subst IsValid (sym led) h
led_is net (step ∷ steps) last h led =
    led_is (with_edit net step.edit) steps last (valid_edit net step.edit h led.0.allowed) led.1

-- a command leaves a valid session
judged_is : (command : Command) (s : SessionValue) → IsSession s → IsSession (judged command s)
judged_is (c.Edit e) s h = record { net = edited_is s.net e (edit_fault s.net e) refl h.net; before = h.before }
judged_is c.Trial s h =
    let by : (b : Bool)
    → IsSession (if b then s else record { net = s.net; before = Some s.net; work = s.work }) =
    elim [ true ↦ h | false ↦ record { net = h.net; before = h.net } ] in
    by (is_some s.before)
judged_is c.Back s h = record { net = back_is s.before s.net h.before h.net; before = tt }
judged_is c.Keep s h = record { net = h.net; before = tt }
judged_is (c.Request asked) s h = h

said_is : (r : Result (Option Command) Code) (s : SessionValue) → IsSession s → IsSession (said_judged r s)
said_is (Ok (Some command)) s h = judged_is command s h
said_is _ s h = h

-- an answer leaves a valid session
after_is : (answer : Answer) (s : SessionValue) → IsSession s → IsSession (after_answer answer s)
after_is a.Climb s h =
    let done = climb s.net 0 (budget_of s.net.plan) in
    record {
      net = led_is s.net done.steps done.net h.net (climb_leads s.net 0 (budget_of s.net.plan) h.net);
      before = tt;
    }
after_is a.Cert s h = record { net = h.net; before = h.before }
after_is _ s h = h

-- an accepted END opens a valid session
of_is : (d : Deck) → IsDeck d → IsValidRun (run_of d)
of_is (Complete number net) h = record { net = h; before = tt }
of_is _ h = h

-- one line more
line_is : (state : RunState) (line : List ℕ) → IsValidRun state → IsValidRun (run_after state line)
line_is (InDeck deck) line h = of_is (next deck line) (next_is deck line h)
line_is (InSession s) line h = after_is (line_answer s line) (line_judged s line) (said_is (command_in line) s h)

lines_are : (state : RunState) (lines : List (List ℕ)) → IsValidRun state → IsValidRun (fold run_after state lines)
lines_are state [] h = h
lines_are state (line ∷ lines) h = lines_are (run_after state line) lines (line_is state line h)

descends : (state : RunState) → IsValidRun state → ClimbDescends climb_of state
descends (InDeck deck) h = tt
descends (InSession s) h =
    let budget = budget_of s.net.plan in
    record {
      steps = climb_leads s.net 0 budget h.net;
      local = local_climb s.net 0 budget;
      spent = climb_spent s.net 0 budget;
    }

-- a climb after any lines
pub climb_descends : (before : List (List ℕ)) → ClimbDescends climb_of (run_state before)
climb_descends before = descends (run_state before) (lines_are (InDeck start) before tt)
