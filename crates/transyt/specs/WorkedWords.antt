-- Worked words, each with what it asks for.
use Rattle.std.specs.Prelude.{ℕ, List, [], ◌∷◌, Option, None, Some, codes}
use Rattle.transyt_climbs.specs.declared.scan_word.ScanWord.{ScanWord}
use Rattle.transyt_words.specs.declared.starts.StartsWord.{StartsWord}
use Rattle.transyt.specs.declared.town.Town.{Town}
use Rattle.transyt.specs.declared.word.Word.{Word}
use Rattle.transyt.specs.declared.word.Word.TheVariants as w

-- cycle times for a number of workers
abbrev pub asked : ℕ → ℕ → ℕ → ℕ → ScanWord
asked workers low high by = record { workers = workers; times = record { low = low; high = high; by = by } }

-- the town of a seed with so many nodes
abbrev pub town : ℕ → ℕ → Town
town seed nodes = record { seed = seed; nodes = nodes }

-- so many starts from a seed, from a number on
abbrev pub from_seed : ℕ → ℕ → ℕ → ℕ → StartsWord
from_seed workers seed count from = record { workers = workers; seed = seed; count = count; from = from }

-- lists of words, each with what it asks for
abbrev pub worked_words : List (List (List ℕ) × Option Word)
worked_words =
    ([], None)
    ∷ (codes "run" ∷ [], Some (w.Run 1))
    ∷ (codes "Run" ∷ [], None)
    ∷ (codes "runs" ∷ [], None)
    ∷ (codes "run" ∷ codes "1" ∷ [], Some (w.Run 1))
    ∷ (codes "run" ∷ codes "8" ∷ [], Some (w.Run 8))
    ∷ (codes "run" ∷ codes "9" ∷ [], None)
    ∷ (codes "run" ∷ codes "0" ∷ [], None)
    ∷ (codes "run" ∷ codes "03" ∷ [], None)
    ∷ (codes "run" ∷ [] ∷ [], None)
    ∷ (codes "make" ∷ codes "7" ∷ codes "200" ∷ [], Some (w.Make (town 7 200)))
    ∷ (codes "make" ∷ codes "7" ∷ codes "201" ∷ [], None)
    ∷ (codes "make" ∷ codes "7" ∷ codes "0" ∷ [], None)
    ∷ (codes "make" ∷ codes "999999999" ∷ codes "1" ∷ [], Some (w.Make (town 999999999 1)))
    ∷ (codes "make" ∷ codes "1000000000" ∷ codes "1" ∷ [], None)
    ∷ (codes "make" ∷ codes "7" ∷ codes "64" ∷ codes "2" ∷ [], None)
    ∷ (codes "brief" ∷ codes "7" ∷ codes "64" ∷ [], Some (w.Brief (town 7 64) 1))
    ∷ (codes "brief" ∷ codes "7" ∷ codes "64" ∷ codes "5" ∷ [], Some (w.Brief (town 7 64) 5))
    ∷ (codes "brief" ∷ codes "7" ∷ codes "64" ∷ codes "9" ∷ [], None)
    ∷ (codes "brief" ∷ codes "7" ∷ [], None)
    ∷ (codes "counts" ∷ [], Some w.Counts)
    ∷ (codes "equisat" ∷ [], Some w.Equisat)
    ∷ (codes "audit" ∷ [], Some w.Audit)
    ∷ (codes "counts" ∷ codes "2" ∷ [], None)
    ∷ (codes "version" ∷ [], Some w.Version)
    ∷ (codes "version" ∷ codes "1" ∷ [], None)
    ∷ (codes "scan" ∷ codes "2" ∷ codes "60" ∷ codes "120" ∷ codes "17" ∷ [], Some (w.Scan (asked 2 60 120 17)))
    ∷ (codes "scan" ∷ codes "8" ∷ codes "30" ∷ codes "240" ∷ codes "210" ∷ [], Some (w.Scan (asked 8 30 240 210)))
    ∷ (codes "scan" ∷ codes "2" ∷ codes "29" ∷ codes "120" ∷ codes "17" ∷ [], None)
    ∷ (codes "scan" ∷ codes "2" ∷ codes "60" ∷ codes "241" ∷ codes "17" ∷ [], None)
    ∷ (codes "scan" ∷ codes "2" ∷ codes "61" ∷ codes "60" ∷ codes "17" ∷ [], None)
    ∷ (codes "scan" ∷ codes "2" ∷ codes "60" ∷ codes "120" ∷ codes "0" ∷ [], None)
    ∷ (codes "scan" ∷ codes "2" ∷ codes "60" ∷ codes "120" ∷ codes "211" ∷ [], None)
    ∷ (codes "scan" ∷ codes "2" ∷ codes "60" ∷ codes "120" ∷ codes "17" ∷ codes "1" ∷ [], None)
    ∷ (codes "cycles" ∷ codes "2" ∷ codes "60" ∷ codes "120" ∷ codes "17" ∷ [], Some (w.Cycles (asked 2 60 120 17)))
    ∷ (codes "cycles" ∷ codes "2" ∷ codes "60" ∷ codes "120" ∷ codes "0" ∷ [], None)
    ∷ (codes "cycles" ∷ codes "2" ∷ codes "60" ∷ codes "120" ∷ [], None)
    ∷ (codes "starts" ∷ codes "3" ∷ codes "7" ∷ codes "1000" ∷ [], Some (w.Starts (from_seed 3 7 1000 0)))
    ∷ (codes "starts" ∷ codes "3" ∷ codes "7" ∷ codes "1001" ∷ [], None)
    ∷ (codes "starts" ∷ codes "3" ∷ codes "7" ∷ [], None)
    ∷ (codes "starts" ∷ codes "3" ∷ codes "7" ∷ codes "500" ∷ codes "499" ∷ [], Some (w.Starts (from_seed 3 7 500 499)))
    ∷ (codes "starts" ∷ codes "3" ∷ codes "7" ∷ codes "500" ∷ codes "501" ∷ [], None)
    ∷ (codes "starts" ∷ codes "3" ∷ codes "7" ∷ codes "500" ∷ codes "5x" ∷ [], None)
    ∷ (codes "starts" ∷ codes "3" ∷ codes "7" ∷ codes "500" ∷ codes "499" ∷ codes "1" ∷ [], None)
    ∷ []

-- words whose numbers are in their ranges: each at its least and at its greatest
abbrev pub words_in_range : List Word
words_in_range =
    w.Run 1 ∷ w.Run 8 ∷ w.Make (town 0 1) ∷ w.Make (town 999999999 200) ∷ w.Brief (town 0 200) 1
    ∷ w.Brief (town 999999999 1) 8 ∷ w.Counts ∷ w.Equisat ∷ w.Audit ∷ w.Version ∷ w.Scan (asked 1 30 240 210)
    ∷ w.Cycles (asked 8 30 240 1) ∷ w.Starts (from_seed 1 0 1 0) ∷ w.Starts (from_seed 8 999999999 1000 0)
    ∷ w.Starts (from_seed 3 7 1 999) ∷ []

-- words with one number that is one past its range
abbrev pub words_out_of_range : List Word
words_out_of_range =
    w.Run 0 ∷ w.Run 9 ∷ w.Make (town 1000000000 64) ∷ w.Make (town 7 0) ∷ w.Make (town 7 201)
    ∷ w.Brief (town 1000000000 64) 3 ∷ w.Brief (town 7 0) 3 ∷ w.Brief (town 7 201) 3 ∷ w.Brief (town 7 64) 0
    ∷ w.Brief (town 7 64) 9 ∷ w.Scan (asked 2 60 120 211) ∷ w.Cycles (asked 9 60 120 17)
    ∷ w.Starts (from_seed 2 7 0 3) ∷ w.Starts (from_seed 2 7 1001 0) ∷ w.Starts (from_seed 2 7 1 1000) ∷ []
