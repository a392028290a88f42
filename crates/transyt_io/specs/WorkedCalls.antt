-- Worked calls of sources, sinks and a reader: what they may have done to what is told, and what not, each wrong in one
-- thing.
use Rattle.std.specs.Prelude.{ℕ, List, [], ◌∷◌, ◌++◌, true, false, Option, None, Some, Result, Ok, Err, codes}
use Rattle.transyt_io.specs.declared.reader.ReadStop.{ReadStop}
use Rattle.transyt_io.specs.declared.reader.ReadStop.TheVariants.{Fault}
use Rattle.transyt_io.specs.Reading.{Reading}

-- of a read or a write: what is told before it and after it, how many bytes it gave or took, and those of its call
abbrev pub WorkedCall : Type 0
WorkedCall = Option (List ℕ) × Option (List ℕ) × Result ℕ ReadStop × List ℕ

-- reads: of two bytes, of the last, at the end, where the source doesn't tell, and one that failed
abbrev pub reads : List WorkedCall
reads =
    (Some (codes "abcd"), Some (codes "cd"), Ok 2, codes "abxyz")
    ∷ (Some (codes "d"), Some [], Ok 1, codes "dxyz") ∷ (Some [], Some [], Ok 0, codes "xyz")
    ∷ (None, None, Ok 2, codes "abxyz") ∷ (Some (codes "abcd"), Some (codes "abcd"), Err Fault, codes "xyz") ∷ []

-- No reads: other bytes than were left; one more is gone; no byte, though some are left; the source no longer tells; and
-- one that failed and took a byte.
abbrev pub no_reads : List WorkedCall
no_reads =
    (Some (codes "abcd"), Some (codes "cd"), Ok 2, codes "acxyz")
    ∷ (Some (codes "abcd"), Some (codes "d"), Ok 2, codes "abcyz")
    ∷ (Some (codes "abcd"), Some (codes "abcd"), Ok 0, codes "xyz")
    ∷ (Some (codes "abcd"), None, Ok 2, codes "abxyz")
    ∷ (Some (codes "abcd"), Some (codes "bcd"), Err Fault, codes "axyz") ∷ []

-- writes: of the first two bytes, of all, where the sink doesn't tell, and one that failed
abbrev pub writes : List WorkedCall
writes =
    (Some (codes "ab"), Some (codes "abcd"), Ok 2, codes "cdef")
    ∷ (Some (codes "ab"), Some (codes "abcdef"), Ok 4, codes "cdef") ∷ (None, None, Ok 2, codes "cdef")
    ∷ (Some (codes "ab"), Some (codes "ab"), Err Fault, codes "cdef") ∷ []

-- No writes: the piece's last bytes; one more, and one less; before what was written; and one that failed and added a
-- byte.
abbrev pub no_writes : List WorkedCall
no_writes =
    (Some (codes "ab"), Some (codes "abef"), Ok 2, codes "cdef")
    ∷ (Some (codes "ab"), Some (codes "abcde"), Ok 2, codes "cdef")
    ∷ (Some (codes "ab"), Some (codes "abc"), Ok 2, codes "cdef")
    ∷ (Some (codes "ab"), Some (codes "cdab"), Ok 2, codes "cdef")
    ∷ (Some (codes "ab"), Some (codes "abc"), Err Fault, codes "cdef") ∷ []

-- the answer of a call that gave or took three bytes
abbrev pub three : Result ℕ ReadStop
three = Ok 3

-- and of one that failed
abbrev pub failed : Result ℕ ReadStop
failed = Err Fault

-- a line and two bytes after it
abbrev pub taken : List ℕ
taken = codes "c" ++ 10 ∷ codes "ab"

-- a reader that took so many bytes, holds two, and came to the end of its source
abbrev pub reader : ℕ → Reading
reader count = record { taken = count; held = codes "ab"; ended = true; live = true; line = None }

-- a reader that took five bytes, holds two, and handed out this line last
abbrev pub handing : Option (List ℕ) → Reading
handing line = record { taken = 5; held = codes "cd"; ended = false; live = true; line = line }
