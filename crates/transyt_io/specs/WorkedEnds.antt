-- Worked calls of the sources and sinks in memory. No number is neutral.
use Rattle.std.specs.Prelude.{ℕ, List, [], ◌∷◌, Bool, true, false}
use Rattle.transyt_io.specs.Memory.{Stock, Store, Supply}

-- counts, each with the next
abbrev pub counts : List (ℕ × ℕ)
counts = (37, 38) ∷ (18446744073709551614, 18446744073709551615) ∷ (18446744073709551615, 18446744073709551615) ∷ []

-- the numbers of calls that fail and how many calls there were, with whether the next fails
abbrev pub failures : List ((List ℕ × ℕ) × Bool)
failures =
    ((3 ∷ 7 ∷ [], 2), true) ∷ ((3 ∷ 7 ∷ [], 3), false) ∷ ((3 ∷ 7 ∷ [], 6), true) ∷ ((0 ∷ [], 0), false)
    ∷ ((4294967295 ∷ [], 4294967294), true) ∷ ((4294967296 ∷ [], 4294967295), false) ∷ []

-- a source with five bytes left
abbrev pub a_supply : Supply
a_supply = record { left = 5 ∷ 6 ∷ 7 ∷ 8 ∷ 9 ∷ []; piece = 3; fail = 2 ∷ 4 ∷ []; calls = 1; faults = 7; last = 2 }

-- after a call that gave three of them
abbrev pub supply_given : Supply
supply_given = record { left = 8 ∷ 9 ∷ []; piece = 3; fail = 2 ∷ 4 ∷ []; calls = 2; faults = 7; last = 3 }

-- after a call that failed
abbrev pub supply_failed : Supply
supply_failed =
    record { left = 5 ∷ 6 ∷ 7 ∷ 8 ∷ 9 ∷ []; piece = 3; fail = 2 ∷ 4 ∷ []; calls = 2; faults = 8; last = 0 }

-- a source that nothing was read from
abbrev pub supply_new : Supply
supply_new = record { left = 5 ∷ 6 ∷ []; piece = 3; fail = 2 ∷ 4 ∷ []; calls = 0; faults = 0; last = 0 }

-- a steady source
abbrev pub a_stock : Stock
a_stock = record { left = 5 ∷ 6 ∷ 7 ∷ []; last = 1 }

-- the same after a call that gave two bytes
abbrev pub stock_given : Stock
stock_given = record { left = 7 ∷ []; last = 2 }

-- a sink with these bytes written, so much room, so many calls and so many faults
abbrev pub store_with : List ℕ → ℕ → ℕ → ℕ → Store
store_with written room calls faults =
    record { written = written; room = room; piece = 3; fail = 6 ∷ []; calls = calls; faults = faults }

-- the room and the calls so far of such a sink, with whether the next call fails
abbrev pub refusals : List ((ℕ × ℕ) × Bool)
refusals = ((4, 2), false) ∷ ((0, 2), true) ∷ ((4, 5), true) ∷ ((1, 6), false) ∷ []

-- the room and the size of a piece, with how many bytes a call takes, at most three a call
abbrev pub takings : List ((ℕ × ℕ) × ℕ)
takings = ((4, 2), 2) ∷ ((4, 9), 3) ∷ ((1, 9), 1) ∷ []
