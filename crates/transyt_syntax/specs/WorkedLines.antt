-- Worked lines by a table of two keywords, each with its meaning; and each code with its number.
use Rattle.std.specs.Prelude.{ℕ, List, [], ◌∷◌, ◌++◌, codes, replicate, Option, Some, None, Result, Ok, Err}
use Rattle.transyt_syntax.specs.declared.code.Code.{Code}
use Rattle.transyt_syntax.specs.declared.code.Code.TheVariants as code
use Rattle.transyt_syntax.specs.Syntax.{Entry, entry, ranged, at}

-- a keyword with two numbers, and one with one to three
abbrev pub table : List (Entry (ℕ × ℕ × ℕ))
table =
    entry (codes "QUEUE") 2 (λ ns. (at ns 0, at ns 1, at ns 2))
    ∷ ranged (codes "STAGE") 1 3 (λ ns. (at ns 2, at ns 0, at ns 1)) ∷ []

-- lines, each with its meaning: its numbers and 0 for those past the last; or its code, at a line that has the next
-- code too where it can
abbrev pub worked : List (List ℕ × Result (Option (ℕ × ℕ × ℕ)) Code)
worked =
    (codes "QUEUE 21 3", Ok (Some (21, 3, 0))) ∷ (codes "STAGE 21 3 17", Ok (Some (17, 21, 3)))
    ∷ (codes "STAGE 21", Ok (Some (0, 21, 0))) ∷ (9 ∷ codes "QUEUE" ++ 9 ∷ codes "021  000000003 ", Ok (Some (21, 3, 0)))
    ∷ ([], Ok None) ∷ (codes "* queue", Ok None) ∷ (replicate 4096 32, Ok None)
    ∷ (codes "QUEUE 21 3" ++ replicate 4086 32, Ok (Some (21, 3, 0)))
    ∷ (codes "QUEUE 21 3" ++ replicate 4087 32, Err code.LongLine) ∷ (replicate 4097 127, Err code.LongLine)
    ∷ (codes "QUEUE x" ++ 127 ∷ [], Err code.OddByte) ∷ (codes "QUEUE 21 " ++ 31 ∷ [], Err code.OddByte)
    ∷ (codes "STAGES 21", Err code.OddByte) ∷ (codes "21", Err code.OddByte)
    ∷ (codes "QUEUE 21 3 x", Err code.WrongCount) ∷ (codes "QUEUE x", Err code.WrongCount)
    ∷ (codes "STAGE", Err code.WrongCount) ∷ (codes "STAGE 21 3 17 x", Err code.WrongCount)
    ∷ (codes "QUEUE 21 !", Err code.NoNumber) ∷ (codes "QUEUE ~ 3", Err code.NoNumber) ∷ []

-- this many words and sixteen more
abbrev pub many : ℕ → List (List ℕ)
many more = replicate more (codes "7") ++ replicate 16 (codes "11")

-- the codes in the order of their numbers
abbrev pub each_code : List Code
each_code =
    code.OddByte ∷ code.LongLine ∷ code.WrongCount ∷ code.NoNumber ∷ code.Range ∷ code.OutOfPlace ∷ code.Twice
    ∷ code.Unknown ∷ code.StageOrder ∷ code.LeastGreen ∷ code.TooMany ∷ code.NoEnd ∷ code.FewStages ∷ code.NoFeeder
    ∷ code.NoTrial ∷ code.OpenTrial ∷ code.NoPlan ∷ code.CountedFlow ∷ code.OtherLine ∷ code.LowerIndex ∷ []
