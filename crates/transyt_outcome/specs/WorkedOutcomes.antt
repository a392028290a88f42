-- Worked runs over lines that are said again: such as end with a status, and such as don't, each wrong in one thing.
use Rattle.std.specs.Prelude.{ℕ, ◌+◌, ◌*◌, ◌++◌, List, [], ◌∷◌, Option, None, Some, codes, length, nat_eq, nat_lt, if◌then◌else◌}
use Rattle.transyt_outcome.specs.declared.ending.Ending.{Ending}
use Rattle.transyt_outcome.specs.declared.ending.Ending.TheVariants as e
use Rattle.transyt_outcome.specs.declared.status.Status.{Status}
use Rattle.transyt_outcome.specs.declared.status.Status.TheVariants as s
use Rattle.transyt_outcome.specs.Runs.{Answering}

-- a line that begins with S ends the run, and one that begins with R ends it as a refusal
abbrev pub echo_ends : List ℕ → Option Ending
echo_ends [] = None
echo_ends (b ∷ bs) = if nat_eq b 83 then Some e.Stopped else if nat_eq b 82 then Some e.Refused else None

-- Each line is said again after a `>`, and takes a step for each byte and a hundred for each line before it. The end of
-- the input is told by how many lines there were, as a digit, and is a refusal after more than two. The state is how many
-- lines came.
abbrev pub echo : Answering ℕ
echo = record {
  start = 0;
  text = λ count line. 62 ∷ line ++ 10 ∷ [];
  ends = λ count line. echo_ends line;
  cost = λ count line. length line + 100 * count;
  next = λ count line. count + 1;
  closing = λ count. (48 + count) ∷ 10 ∷ [];
  refused = λ count. nat_lt 2 count;
}

-- lines, their answer and their report; the last has no line end
abbrev pub two_lines : List ℕ
two_lines = codes "ab" ++ 10 ∷ codes "cde"

abbrev pub two_so_far : List ℕ
two_so_far = codes ">ab" ++ 10 ∷ []

abbrev pub two_report : List ℕ
two_report = two_so_far ++ codes ">cde" ++ 10 ∷ codes "2" ++ 10 ∷ []

-- each of these is so, spelled out one by one
abbrev pub Each : {X : Type 0} → (X → Type 0) → List X → Type 0
Each P [] = Unit {0}
Each P (x ∷ xs) = P x × Each P xs

-- of a run: what its source has left, how many bytes its last read gave, the bytes taken, those written, the steps after
-- it, where 7 were made before it, and its status
abbrev pub WorkedRow : Type 0
WorkedRow = Option (List ℕ) × Option ℕ × List ℕ × List ℕ × ℕ × Status

-- runs that end so
abbrev pub worked_rows : List WorkedRow
worked_rows =
    (Some [], Some 0, two_lines, two_report, 112, s.Done)
    ∷ (Some (codes "f"), Some 8, codes "Sto" ++ 10 ∷ codes "R" ++ 10 ∷ [], codes ">Sto" ++ 10 ∷ [], 10, s.Done)
    ∷ (Some [], Some 0, codes "ab" ++ 10 ∷ codes "R", two_so_far ++ codes ">R" ++ 10 ∷ [], 110, s.DeckRefused)
    ∷ (Some (codes "f"), Some 0, two_lines, two_so_far, 9, s.ReadFault)
    ∷ (Some (codes "f"), Some 4, two_lines, codes ">a", 7, s.WriteFault)
    ∷ (Some [], Some 0, two_lines, two_so_far ++ codes ">cd", 112, s.WriteFault)
    ∷ (Some (codes "f"), Some 3, two_lines, [], 9, s.NoMemory)
    ∷ []

-- runs that don't: the source has more, the answer to the end is missing, a whole line is answered in part, the bytes
-- aren't too many, the line before the last read isn't answered, a byte is written without memory, the words are good
abbrev pub unworked_rows : List WorkedRow
unworked_rows =
    (Some (codes "f"), Some 3, two_lines, two_report, 112, s.Done)
    ∷ (Some [], Some 0, two_lines, two_so_far, 112, s.Done)
    ∷ (Some (codes "f"), Some 0, two_lines, codes ">ab", 9, s.ReadFault)
    ∷ (Some (codes "f"), Some 3, two_lines, two_so_far, 9, s.TooLong)
    ∷ (Some (codes "f"), Some 3, two_lines, codes ">ab", 9, s.WriteFault)
    ∷ (Some (codes "f"), Some 3, two_lines, codes ">", 9, s.NoMemory)
    ∷ (Some [], None, [], [], 7, s.BadWords)
    ∷ []

-- steps that aren't those of these rows: one too few, one too many, one more than the whole lines take
abbrev pub unworked_steps : List WorkedRow
unworked_steps =
    (Some [], Some 0, two_lines, two_report, 111, s.Done)
    ∷ (Some [], Some 0, two_lines, two_report, 113, s.Done)
    ∷ (Some (codes "f"), Some 4, two_lines, codes ">a", 10, s.WriteFault)
    ∷ []
