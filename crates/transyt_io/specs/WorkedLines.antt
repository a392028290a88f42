-- Worked inputs and lines, with what comes of each.
use Rattle.std.specs.Prelude.{ℕ, List, [], ◌∷◌, ◌++◌, codes, Bool, true, false}

-- an input, its lines, those with a line end, the bytes after the first line end, and whether there is one
abbrev pub worked_inputs : List (List ℕ × (List (List ℕ) × List (List ℕ) × List ℕ × Bool))
worked_inputs =
    ([], ([], [], [], false))
    ∷ (codes "a" ++ 9 ∷ 11 ∷ [], ((codes "a" ++ 9 ∷ 11 ∷ []) ∷ [], [], [], false))
    ∷ (10 ∷ [], ([] ∷ [], [] ∷ [], [], true))
    ∷ (13 ∷ 13 ∷ 10 ∷ [], ((13 ∷ []) ∷ [], (13 ∷ []) ∷ [], [], true))
    ∷ (
      codes "one" ++ 10 ∷ codes "two" ++ 13 ∷ 10 ∷ 13 ∷ 10 ∷ 10 ∷ codes "last" ++ 13 ∷ [],
      (
        codes "one" ∷ codes "two" ∷ [] ∷ [] ∷ codes "last" ∷ [],
        codes "one" ∷ codes "two" ∷ [] ∷ [] ∷ [],
        codes "two" ++ 13 ∷ 10 ∷ 13 ∷ 10 ∷ 10 ∷ codes "last" ++ 13 ∷ [],
        true,
      ),
    )
    ∷ (
      codes "a" ++ 13 ∷ codes "b" ++ 11 ∷ 9 ∷ 10 ∷ 13 ∷ [],
      (
        (codes "a" ++ 13 ∷ codes "b" ++ 11 ∷ 9 ∷ []) ∷ [] ∷ [],
        (codes "a" ++ 13 ∷ codes "b" ++ 11 ∷ 9 ∷ []) ∷ [],
        13 ∷ [],
        true,
      ),
    )
    ∷ []

-- so many bytes and what comes after them, with the lengths of the lines
abbrev pub worked_lengths : List ((ℕ × List ℕ) × List ℕ)
worked_lengths =
    ((4096, 10 ∷ []), 4096 ∷ [])
    ∷ ((4096, 13 ∷ 10 ∷ 7 ∷ []), 4096 ∷ 1 ∷ [])
    ∷ ((4097, []), 4097 ∷ [])
    ∷ ((4097, 13 ∷ []), 4097 ∷ [])
    ∷ ((4098, 10 ∷ []), 4097 ∷ [])
    ∷ ((4096, 13 ∷ 13 ∷ 10 ∷ []), 4097 ∷ [])
    ∷ []

-- a line, its words, and whether it is skipped
abbrev pub worked_words : List (List ℕ × (List (List ℕ) × Bool))
worked_words =
    ([], ([], true))
    ∷ (32 ∷ 9 ∷ 32 ∷ [], ([], true))
    ∷ (codes "* a remark", (codes "*" ∷ codes "a" ∷ codes "remark" ∷ [], true))
    ∷ (codes " *X", (codes "*X" ∷ [], false))
    ∷ (codes "+X", (codes "+X" ∷ [], false))
    ∷ (codes "NODE 1" ++ 9 ∷ codes " 20 ", (codes "NODE" ∷ codes "1" ∷ codes "20" ∷ [], false))
    ∷ (8 ∷ 9 ∷ 10 ∷ 31 ∷ 33 ∷ [], ((8 ∷ []) ∷ (10 ∷ 31 ∷ 33 ∷ []) ∷ [], false))
    ∷ []

-- so many equal bytes, and whether a line of them is skipped
abbrev pub worked_skips : List ((ℕ × ℕ) × Bool)
worked_skips =
    ((4096, 32), true) ∷ ((4097, 32), false) ∷ ((4096, 42), true) ∷ ((4097, 42), false) ∷ ((3, 43), false) ∷ []
