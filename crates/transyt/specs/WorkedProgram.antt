-- Worked runs of the program: such as are right, and such as are wrong in one thing.
use Rattle.std.specs.Prelude.{ℕ, ◌++◌, List, [], ◌∷◌, Option, None, Some, codes}
use Rattle.transyt_outcome.specs.Ends.{Ends}
use Rattle.transyt.specs.Program.{Sides}

-- words that ask for the report of an input, for the deck of a town, and for nothing
abbrev pub run_words : List (List ℕ)
run_words = codes "run" ∷ codes "3" ∷ []

abbrev pub make_words : List (List ℕ)
make_words = codes "make" ∷ codes "7" ∷ codes "64" ∷ []

abbrev pub no_words : List (List ℕ)
no_words = codes "make" ∷ codes "7" ∷ codes "64" ∷ codes "2" ∷ []

-- an input of one line, which is no card, and its report
abbrev pub no_card : List ℕ
no_card = codes "X" ++ 10 ∷ []

abbrev pub refusal : List ℕ
refusal = codes "CARD 1 REFUSED 10" ++ 10 ∷ []

-- what the writer holds before a run
abbrev pub held : List ℕ
held = codes "ab"

-- of a run over that input: the words, what the writer holds afterwards, and the exit number
abbrev pub WorkedRun : Type 0
WorkedRun = List (List ℕ) × List ℕ × ℕ

-- runs that may be: the report was written; or nothing, or a front of it, where a read or a write failed or there was no
-- memory; nothing with words that the program doesn't take
abbrev pub worked_runs : List WorkedRun
worked_runs =
    (run_words, held ++ refusal, 2)
    ∷ (run_words, held, 3)
    ∷ (run_words, held ++ codes "CARD", 4)
    ∷ (run_words, held, 5)
    ∷ (no_words, held, 1)
    ∷ []

-- runs that may not: what the writer held is lost, the number is that of a report without a refusal, a line that ends
-- the run is answered though a read failed, junk is written then, what is written is no front, something is written
-- without memory, an input of two bytes is too long, no status has the number, the words are taken; with words that
-- aren't taken something is written, or the number is that of another status
abbrev pub unworked_runs : List WorkedRun
unworked_runs =
    (run_words, refusal, 2)
    ∷ (run_words, held ++ refusal, 0)
    ∷ (run_words, held ++ refusal, 3)
    ∷ (run_words, held ++ codes "?", 3)
    ∷ (run_words, held ++ codes "CARX", 4)
    ∷ (run_words, held ++ codes "C", 5)
    ∷ (run_words, held, 6)
    ∷ (run_words, held ++ refusal, 7)
    ∷ (run_words, held, 1)
    ∷ (no_words, held ++ codes "usage", 1)
    ∷ (no_words, held, 0)
    ∷ (no_words, held, 5)
    ∷ []

-- a source and a sink before a call, and what they tell then
abbrev pub before : Sides ℕ ℕ
before = record {
  source = 3;
  sink = 8;
  tell = record { left = Some no_card; last = Some 4; reads = 2; written = Some held; writes = 5 };
}

-- the two after a read that failed: one byte was taken before, and nothing was written
abbrev pub unread : ℕ → Sides ℕ ℕ
unread reads = record {
  source = 6;
  sink = 8;
  tell = record { left = Some (10 ∷ []); last = Some 0; reads = reads; written = Some held; writes = 5 };
}

-- what they tell after the report
abbrev pub told_after : List ℕ → Ends
told_after written = record { left = Some []; last = Some 0; reads = 2; written = Some written; writes = 5 }
