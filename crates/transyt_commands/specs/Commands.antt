-- Lines as commands.
use Rattle.std.specs.Prelude.{ℕ, List, [], ◌∷◌, codes, Option, Result}
use Rattle.transyt_syntax.specs.declared.code.Code.{Code}
use Rattle.transyt_syntax.specs.Syntax.{Entry, entry, said, at}
use Rattle.transyt_net.specs.declared.edit.Edit.TheVariants as e
use Rattle.transyt_commands.specs.declared.command.Command.{Command}
use Rattle.transyt_commands.specs.declared.command.Command.TheVariants as c
use Rattle.transyt_commands.specs.declared.command.Request.TheVariants as r

-- the edits: the keyword of each, how many numbers stand after it, and its command with them
abbrev pub edits : List (Entry Command)
edits =
    entry (codes "OFFSET") 2 (λ ns. c.Edit (e.Offset (at ns 0) (at ns 1)))
    ∷ entry (codes "CHANGE") 3 (λ ns. c.Edit (e.Change (at ns 0) (at ns 1) (at ns 2)))
    ∷ entry (codes "ENTRY") 2 (λ ns. c.Edit (e.Entry (at ns 0) (at ns 1)))
    ∷ entry (codes "PART") 3 (λ ns. c.Edit (e.Part (at ns 0) (at ns 1) (at ns 2)))
    ∷ entry (codes "CRUISE") 3 (λ ns. c.Edit (e.Cruise (at ns 0) (at ns 1) (at ns 2)))
    ∷ entry (codes "SATURATION") 2 (λ ns. c.Edit (e.Saturation (at ns 0) (at ns 1)))
    ∷ entry (codes "WEIGHT") 3 (λ ns. c.Edit (e.Weight (at ns 0) (record { delay = at ns 1; stop = at ns 2 })))
    ∷ []

-- the same of all commands
abbrev pub commands : List (Entry Command)
commands =
    entry (codes "TRIAL") 0 (λ ns. c.Trial)
    ∷ entry (codes "BACK") 0 (λ ns. c.Back)
    ∷ entry (codes "KEEP") 0 (λ ns. c.Keep)
    ∷ entry (codes "CLIMB") 0 (λ ns. c.Request r.Climb)
    ∷ entry (codes "CERT") 0 (λ ns. c.Request r.Cert)
    ∷ entry (codes "INDEX") 0 (λ ns. c.Request r.Index)
    ∷ entry (codes "LINKS") 0 (λ ns. c.Request r.Links)
    ∷ entry (codes "FIGURES") 0 (λ ns. c.Request r.Figures)
    ∷ entry (codes "TIMING") 0 (λ ns. c.Request r.Timing)
    ∷ entry (codes "PROFILE") 1 (λ ns. c.Request (r.Profile (at ns 0)))
    ∷ entry (codes "PLOT") 1 (λ ns. c.Request (r.Plot (at ns 0)))
    ∷ entry (codes "QUEUE") 1 (λ ns. c.Request (r.Queue (at ns 0)))
    ∷ entry (codes "CHART") 0 (λ ns. c.Request r.Chart)
    ∷ entry (codes "WORK") 0 (λ ns. c.Request r.Work)
    ∷ entry (codes "DECK") 0 (λ ns. c.Request r.Deck)
    ∷ entry (codes "STOP") 0 (λ ns. c.Request r.Stop)
    ∷ edits

-- the command of a line, none for a comment or a blank line, or the first of the codes 11, 10, 12 and 13
abbrev pub command_in : List ℕ → Result (Option Command) Code
command_in line = said commands line
