-- Worked words, roots and texts of numbers.
use Rattle.std.specs.Prelude.{ℕ, List, [], ◌∷◌, codes, Option, Some, None}

-- words, with the number that each reads as
abbrev pub worked_words : List (List ℕ × Option ℕ)
worked_words =
    (codes "007", Some 7) ∷ (codes "123456789", Some 123456789) ∷ (codes "000000000", Some 0) ∷ (codes "", None)
    ∷ (codes "0000000001", None) ∷ (codes "4/5", None) ∷ (codes "4:5", None) ∷ []

-- numbers, with the root of each: about squares, and between them
abbrev pub worked_roots : List (ℕ × ℕ)
worked_roots = (0, 0) ∷ (3, 1) ∷ (4, 2) ∷ (5, 2) ∷ (8, 2) ∷ (9, 3) ∷ (35, 5) ∷ (37, 6) ∷ []

-- numbers, each with its shortest text
abbrev pub shortest_texts : List (ℕ × List ℕ)
shortest_texts = (0, codes "0") ∷ (4005, codes "4005") ∷ []

-- Numbers, each with a text that isn't its shortest: no digit, a byte just below the digits, which counts as a 0, one
-- just above, which counts as a 10, the text of another number, and a zero in front of 0 and of 37.
abbrev pub other_texts : List (ℕ × List ℕ)
other_texts =
    (0, []) ∷ (10, codes "1/") ∷ (20, codes "1:") ∷ (37, codes "38") ∷ (0, codes "00") ∷ (37, codes "037") ∷ []
