-- Worked lines after a deck, each with its command or its code.
use Rattle.std.specs.Prelude.{ℕ, List, [], ◌∷◌, ◌++◌, codes, replicate, Option, Some, None, Result, Ok, Err}
use Rattle.transyt_syntax.specs.declared.code.Code.{Code}
use Rattle.transyt_syntax.specs.declared.code.Code.TheVariants as code
use Rattle.transyt_net.specs.declared.edit.Edit.TheVariants as e
use Rattle.transyt_commands.specs.declared.command.Command.{Command}
use Rattle.transyt_commands.specs.declared.command.Command.TheVariants as c
use Rattle.transyt_commands.specs.declared.command.Request.TheVariants as r

-- each command with numbers that differ; commands of two numbers, of none and of one with each code, at a line that has
-- the next one too where it can; and the limits of a line
abbrev pub worked : List (List ℕ × Result (Option Command) Code)
worked =
    (codes "OFFSET 21 3", Ok (Some (c.Edit (e.Offset 21 3))))
    ∷ (codes "CHANGE 21 3 17", Ok (Some (c.Edit (e.Change 21 3 17))))
    ∷ (codes "ENTRY 21 3", Ok (Some (c.Edit (e.Entry 21 3))))
    ∷ (codes "PART 21 3 17", Ok (Some (c.Edit (e.Part 21 3 17))))
    ∷ (codes "CRUISE 21 3 17", Ok (Some (c.Edit (e.Cruise 21 3 17))))
    ∷ (codes "SATURATION 21 3", Ok (Some (c.Edit (e.Saturation 21 3))))
    ∷ (codes "WEIGHT 21 3 17", Ok (Some (c.Edit (e.Weight 21 (record { delay = 3; stop = 17 })))))
    ∷ (codes "TRIAL", Ok (Some c.Trial)) ∷ (codes "BACK", Ok (Some c.Back)) ∷ (codes "KEEP", Ok (Some c.Keep))
    ∷ (codes "CLIMB", Ok (Some (c.Request r.Climb))) ∷ (codes "CERT", Ok (Some (c.Request r.Cert)))
    ∷ (codes "INDEX", Ok (Some (c.Request r.Index))) ∷ (codes "LINKS", Ok (Some (c.Request r.Links)))
    ∷ (codes "FIGURES", Ok (Some (c.Request r.Figures))) ∷ (codes "TIMING", Ok (Some (c.Request r.Timing)))
    ∷ (codes "PROFILE 21", Ok (Some (c.Request (r.Profile 21))))
    ∷ (codes "PLOT 21", Ok (Some (c.Request (r.Plot 21)))) ∷ (codes "QUEUE 21", Ok (Some (c.Request (r.Queue 21))))
    ∷ (codes "CHART", Ok (Some (c.Request r.Chart)))
    ∷ (codes "WORK", Ok (Some (c.Request r.Work))) ∷ (codes "DECK", Ok (Some (c.Request r.Deck)))
    ∷ (codes "STOP", Ok (Some (c.Request r.Stop)))
    ∷ (codes "OFFSET 1 1" ++ replicate 4087 1, Err code.LongLine) ∷ (codes "OFFSET 1 1 x" ++ 127 ∷ [], Err code.OddByte)
    ∷ (codes "OFFSET 1 1 x", Err code.WrongCount) ∷ (codes "OFFSET x", Err code.WrongCount)
    ∷ (codes "OFFSET 1 x", Err code.NoNumber) ∷ (codes "STOP" ++ replicate 4093 1, Err code.LongLine)
    ∷ (codes "STOP x" ++ 127 ∷ [], Err code.OddByte) ∷ (codes "STOP x", Err code.WrongCount)
    ∷ (codes "QUEUE", Err code.WrongCount) ∷ (codes "QUEUE 1 x", Err code.WrongCount)
    ∷ (codes "FIGURES 21", Err code.WrongCount) ∷ (codes "FIGURES x", Err code.WrongCount)
    ∷ (codes "FIGURESX", Err code.OddByte) ∷ (codes "CHART 21", Err code.WrongCount)
    ∷ (codes "CHART x", Err code.WrongCount) ∷ (codes "CHARTS", Err code.OddByte)
    ∷ (codes "QUEUE x", Err code.NoNumber) ∷ ([], Ok None) ∷ (32 ∷ 9 ∷ [], Ok None) ∷ (42 ∷ 200 ∷ [], Ok None)
    ∷ (replicate 4096 42, Ok None) ∷ (replicate 4097 42, Err code.LongLine)
    ∷ (9 ∷ codes "OFFSET" ++ 9 ∷ codes "021  000000003 ", Ok (Some (c.Edit (e.Offset 21 3))))
    ∷ (codes "OFFSET 1 0000000003", Err code.NoNumber) ∷ (codes "offset 1 1", Err code.OddByte)
    ∷ (codes "OFFSETS 1 1", Err code.OddByte) ∷ (codes "END", Err code.OddByte) ∷ (codes " * a", Err code.OddByte)
    ∷ []
