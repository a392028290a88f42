-- Worked answers as they are written under each status: rows that may be, and rows that may not.
use Rattle.std.specs.Prelude.{ℕ, ◌++◌, List, [], ◌∷◌, codes}
use Rattle.transyt_outcome.specs.declared.status.Status.{Status}
use Rattle.transyt_outcome.specs.declared.status.Status.TheVariants.{Done, DeckRefused, ReadFault, WriteFault, NoMemory}
use Rattle.transyt_words.specs.Answer.{AnswerValue, done, refusal, LineValue, line_of}

-- two lines
abbrev pub two_lines : List LineValue
two_lines = line_of (codes "ENTRY # #") (21 ∷ 640 ∷ []) ∷ line_of (codes "* COUNTS # #") (12 ∷ 3 ∷ []) ∷ []

-- the text of the first
abbrev pub first_text : List ℕ
first_text = codes "ENTRY 21 640" ++ 10 ∷ []

-- the text of both
abbrev pub both_texts : List ℕ
both_texts = codes "ENTRY 21 640" ++ 10 ∷ codes "* COUNTS 12 3" ++ 10 ∷ []

-- of a run: the answer to its input, the bytes written, and its status
abbrev pub WorkedRow : Type 0
WorkedRow = AnswerValue × List ℕ × Status

-- rows that a status may mean
abbrev pub told_rows : List WorkedRow
told_rows =
    (done two_lines, both_texts, Done)
    ∷ (refusal two_lines, both_texts, DeckRefused)
    ∷ (done two_lines, codes "ENTRY 2", WriteFault)
    ∷ (refusal two_lines, [], NoMemory)
    ∷ []

-- rows that it may not
abbrev pub untold_rows : List WorkedRow
untold_rows =
    -- the input is refused, or a line is missing
    (refusal two_lines, both_texts, Done)
    ∷ (done two_lines, first_text, Done)
    -- the input isn't refused
    ∷ (done two_lines, both_texts, DeckRefused)
    -- another byte is written
    ∷ (done two_lines, codes "ENTRY 3", WriteFault)
    -- a byte is written
    ∷ (done two_lines, codes "E", NoMemory)
    -- an input that was read has an answer
    ∷ (done two_lines, [], ReadFault)
    ∷ []
