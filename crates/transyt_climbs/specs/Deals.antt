-- The places of a batch dealt to workers. No public clause cites it: who climbs on which network changes no row.
use Rattle.std.specs.Prelude.{ℕ, ◌+◌, ◌-◌, ◌*◌, ◌/◌, ◌%◌, ◌≡◌, ◌==◌, nat_lt, if◌then◌else◌, Option, Some, None}
use Rattle.std.specs.Prelude.{IfSome, List, map}
use Rattle.std.specs.List.{range_with_len}
use Rattle.transyt_net.specs.Parts.{Network}
use Rattle.transyt_climbs.specs.Climbs.{NetworkListValue, row_at}
use Rattle.transyt_climbs.specs.declared.deal.Deal.{Deal}
use Rattle.transyt_climbs.specs.declared.row.NetworkRow.{NetworkRow}

-- a number within a turn: the same in even turns, counted from the other end in odd ones
abbrev pub mirrored : ℕ → ℕ → ℕ → ℕ
mirrored turn worker workers = if turn % 2 == 0 then worker else workers - 1 - worker

-- the number of what is dealt into a slot
abbrev pub dealt : Deal → ℕ → ℕ
dealt deal slot =
    slot % deal.turns * deal.workers + mirrored (slot % deal.turns) (slot / deal.turns) deal.workers

-- the place in a slot, where there is one: they are dealt from the last place on
abbrev pub place_at : Deal → ℕ → Option ℕ
place_at deal slot =
    if nat_lt (dealt deal slot) deal.count then Some (deal.count - 1 - dealt deal slot) else None

-- the slot of what is dealt with a number
abbrev pub slot_of_number : Deal → ℕ → ℕ
slot_of_number deal number =
    mirrored (number / deal.workers) (number % deal.workers) deal.workers * deal.turns + number / deal.workers

-- the slot of a place
abbrev pub slot_of : Deal → ℕ → ℕ
slot_of deal place = slot_of_number deal (deal.count - 1 - place)

-- what a slot holds is the row of its place, where it has a place and holds a row
abbrev pub Holds : (ℕ → NetworkRow) → Deal → ℕ → Option NetworkRow → Type 0
Holds row_at deal slot held = IfSome held (λ row. IfSome (place_at deal slot) (λ place. row ≡ row_at place))

-- the row at a place of a batch, whose places are counted from its first
abbrev pub batch_row : NetworkListValue → Network → ℕ → ℕ → NetworkRow
batch_row asked net first place = row_at asked net (first + place)

-- the rows of the first n places
abbrev pub first_rows : NetworkListValue → Network → ℕ → List NetworkRow
first_rows asked net n = map (row_at asked net) (range_with_len 0 n)
