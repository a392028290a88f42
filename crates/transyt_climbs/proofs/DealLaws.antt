-- Each place has a slot.
use Rattle.std.proofs.Common.{◌≡◌, ◌<◌, ◌≤◌, ◌+◌, ◌-◌, ◌*◌, ◌/◌, ◌%◌, ℕ, Some, None, Option, if◌then◌else◌, nat_lt}
use Rattle.std.proofs.Common.{List, [], ◌∷◌, ◌++◌, length, ap, sym, ◌∙◌, arith, subst, IfSome}
use Rattle.std.proofs.lemmas.List.FromFn.{length-map-range_with_len, map-range_with_len_more}
use Rattle.std.proofs.lemmas.Nat.{div-add-mod', div-mul-add, mod-mul-add, mod_below}
use Rattle.transyt_climbs.specs.declared.deal.Deal.{Deal}
use Rattle.transyt_climbs.specs.Deals.{mirrored, dealt, place_at, slot_of_number, slot_of, Holds, batch_row, first_rows}
use Rattle.transyt_climbs.specs.Climbs.{NetworkListValue, row_at}
use Rattle.transyt_net.specs.Parts.{Network}
use Rattle.transyt_climbs.specs.declared.row.NetworkRow.{NetworkRow}

-- back from back is forth
mirrored_twice : (turn worker workers : ℕ) → worker < workers
    → mirrored turn (mirrored turn worker workers) workers ≡ worker
mirrored_twice turn worker workers less = grind (arith)

-- a turn is one of all
turn_within : (count turns workers number turn worker : ℕ) → count ≤ turns * workers → number < count
    → turn * workers + worker ≡ number → turn < turns
turn_within count turns workers number turn worker all less parts = grind (arith)

-- what is dealt into the slot of a number is that number
dealt_back : (deal : Deal) (number : ℕ) → number < deal.count
    → dealt deal (slot_of_number deal number) ≡ number
dealt_back deal number less =
    let turn = number / deal.workers in
    let worker = number % deal.workers in
    let parts : turn * deal.workers + worker ≡ number = div-add-mod' number deal.workers in
    let few : worker < deal.workers = mod_below number deal.workers deal.some in
    let short : turn < deal.turns = turn_within deal.count deal.turns deal.workers number turn worker deal.enough less parts in
    let who = mirrored turn worker deal.workers in
    let first : slot_of_number deal number / deal.turns ≡ who = div-mul-add who deal.turns turn short in
    let rest : slot_of_number deal number % deal.turns ≡ turn = mod-mul-add who deal.turns turn short in
    ap (λ t. t * deal.workers + mirrored t (slot_of_number deal number / deal.turns) deal.workers) rest
    ∙ ap (λ w. turn * deal.workers + mirrored turn w deal.workers) first
    ∙ ap (λ w. turn * deal.workers + w) (mirrored_twice turn worker deal.workers few)
    ∙ parts

-- the place of a number
number_back : (count place : ℕ) → place < count
    → (if nat_lt (count - 1 - place) count then Some (count - 1 - (count - 1 - place)) else None) ≡ Some place
number_back count place less = grind (arith)

-- so the place in the slot of a place is that place
pub placed_back : (deal : Deal) (place : ℕ) → place < deal.count
    → place_at deal (slot_of deal place) ≡ Some place
placed_back deal place less =
    let number = deal.count - 1 - place in
    let below : number < deal.count = omega (arith, less) in
    let back = dealt_back deal number below in
    ap (λ n. if nat_lt n deal.count then Some (deal.count - 1 - n) else None) back
    ∙ number_back deal.count place less

-- a place in one of so many rows is one in all
in_rows : (row at rows size : ℕ) → row < rows → at < size → row * size + at < rows * size
in_rows row at rows size less below =
    let step : (row + 1) * size ≤ rows * size = grind (arith) in
    grind (arith)

-- and the slot of a place is one of all
slot_within : (deal : Deal) (place : ℕ) → place < deal.count
    → slot_of deal place < deal.workers * deal.turns
slot_within deal place less =
    let number = deal.count - 1 - place in
    let turn = number / deal.workers in
    let worker = number % deal.workers in
    let below : number < deal.count = omega (arith, less) in
    let parts : turn * deal.workers + worker ≡ number = div-add-mod' number deal.workers in
    let few : worker < deal.workers = mod_below number deal.workers deal.some in
    let short : turn < deal.turns =
    turn_within deal.count deal.turns deal.workers number turn worker deal.enough below parts in
    let who : mirrored turn worker deal.workers < deal.workers = grind (arith) in
    in_rows (mirrored turn worker deal.workers) turn deal.workers deal.turns who short

-- so what the slot of a place holds is the row of that place
pub held_row : (row_at : ℕ → NetworkRow) (deal : Deal) (place : ℕ) (row : NetworkRow) → place < deal.count
    → Holds row_at deal (slot_of deal place) (Some row) → row ≡ row_at place
held_row row_at deal place row less held =
    let P : Option ℕ → Type 0 = λ at. IfSome at (λ place. row ≡ row_at place) in
    subst P (placed_back deal place less) held

-- with the row of the next place of a batch, the rows of the places before it are those of one place more
pub rows_more : (asked : NetworkListValue) (net : Network) (first place : ℕ) (before after : List NetworkRow)
    (row : NetworkRow) → before ≡ first_rows asked net (first + place) → row ≡ batch_row asked net first place
    → after ≡ before ++ row ∷ [] → after ≡ first_rows asked net (first + (place + 1))
rows_more asked net first place before after row all here more =
    let at : ℕ = first + place in
    let next : at + 1 ≡ first + (place + 1) = omega arith in
    more
    ∙ ap (λ (rows : List NetworkRow). rows ++ row ∷ []) all
    ∙ ap (λ (r : NetworkRow). first_rows asked net at ++ r ∷ []) here
    ∙ sym (map-range_with_len_more (row_at asked net) 0 at at (omega arith))
    ∙ ap (first_rows asked net) next

-- there are as many rows as places
pub rows_counted : (asked : NetworkListValue) (net : Network) (n : ℕ) (rows : List NetworkRow)
    → rows ≡ first_rows asked net n → length rows ≡ n
rows_counted asked net n rows all = ap length all ∙ length-map-range_with_len (row_at asked net) 0 n
