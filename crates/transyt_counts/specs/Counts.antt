-- The sums of the rows, key by key, and the answer to a table of counts on a network.
use Rattle.std.specs.Prelude.{ℕ, List, ◌+◌, ◌*◌, ◌/◌, ◌<◌, ◌^◌, [], ◌∷◌, ◌++◌, map, Option, Some, None, if◌then◌else◌}
use Rattle.std.specs.Prelude.{◌≡◌, nat_lt, length, Result, Ok, Err}
use Rattle.transyt_net.specs.declared.edit.Edit.{Edit}
use Rattle.std.specs.List.{filter, fold, list_any, sum_by, find}
use Rattle.std.specs.Map.{lookup}
use Rattle.indexmap.specs.IndexMap.{insert_entry}
use Rattle.transyt_counts.specs.declared.key.Key.{Key}
use Rattle.transyt_counts.specs.declared.row.Count.{Count}
use Rattle.transyt_counts.specs.declared.tally.Totals.{Totals}
use Rattle.transyt_counts.specs.Rows.{same_key, edit_of, records_of, read_row}
use Rattle.transyt_syntax.specs.declared.code.Code.{Code}
use Rattle.transyt_net.specs.Parts.{Network}
use Rattle.transyt_counts.specs.declared.counts.CountStop.{CountStop}
use Rattle.transyt_syntax.specs.declared.code.Code.TheVariants as code
use Rattle.transyt_counts.specs.declared.counts.CountStop.TheVariants as stop

-- the number of rows, and an edit for each counted flow in the order of their first rows
pub record CountsValue : Type 0 where
  pub rows : ℕ
  pub edits : List Edit

-- the vehicles of rows, the minutes in which they were counted, and the number of the last of them
abbrev pub totals_in : List Count → Totals
totals_in rows = record {
  vehicles = sum_by (λ c. c.vehicles) rows;
  minutes = sum_by (λ c. c.minutes) rows;
  last = fold (λ last c. c.row) 0 rows;
}

-- the totals of a key: those of its rows
abbrev pub totals_of : List Count → Key → Totals
totals_of counts k = totals_in (filter (λ c. same_key k c.key) counts)

-- the flow of totals in vehicles per hour, rounded down
abbrev pub flow_by : Totals → ℕ
flow_by t = 60 * t.vehicles / t.minutes

-- the flow of a key
abbrev pub flow_of : List Count → Key → ℕ
flow_of counts k = flow_by (totals_of counts k)

-- the keys with one more, the last, where it is new
abbrev pub with_key : List Key → Key → List Key
with_key keys k = if list_any (same_key k) keys then keys else keys ++ k ∷ []

-- the keys in the order of their first rows
abbrev pub keys_of : List Count → List Key
keys_of counts = fold (λ keys c. with_key keys c.key) [] counts

-- the totals of a key with one row more. No public clause cites them.
abbrev pub more_totals : Count → Option Totals → Totals
more_totals c None = record { vehicles = c.vehicles; minutes = c.minutes; last = c.row }
more_totals c (Some t) = record { vehicles = t.vehicles + c.vehicles; minutes = t.minutes + c.minutes; last = c.row }

-- the totals of each key with one row more. No public clause cites them.
abbrev pub with_count : List (Key × Totals) → Count → List (Key × Totals)
with_count tally c = insert_entry same_key tally c.key (more_totals c (lookup (same_key c.key) tally))

-- each key with its totals
abbrev pub tally_of : List Count → List (Key × Totals)
tally_of counts = map (λ k. (k, totals_of counts k)) (keys_of counts)

-- totals to which a row can be added. No public clause cites them.
abbrev pub HasRoom : Totals → Type 0
HasRoom t = (t.vehicles < 2 ^ 63) × (t.minutes < 2 ^ 63)

-- totals that come from rows. No public clause cites them.
abbrev pub AreCounted : Totals → Type 0
AreCounted t = (0 < t.minutes) × (t.vehicles < 2 ^ 56)

-- the rows with one before them; a code of it comes first
abbrev pub with_row : ℕ → Result Count Code → Result (List Count) CountStop → Result (List Count) CountStop
with_row row (Err code) rest = Err (stop.Refused row code)
with_row row (Ok c) (Err other) = Err other
with_row row (Ok c) (Ok cs) = Ok (c ∷ cs)

-- the counts of the rows from a number on, or the first of them with a code
abbrev pub read_rows : Network → ℕ → List (List (List ℕ)) → Result (List Count) CountStop
read_rows net row [] = Ok []
read_rows net row (r ∷ rs) = with_row row (read_row net row r) (read_rows net (row + 1) rs)

-- the answer for so many rows and these totals, of which this is the first key whose flow is above 9,999
abbrev pub answer_for : ℕ → List (Key × Totals) → Option (Key × Totals) → Result CountsValue CountStop
answer_for rows tally (Some e) = Err (stop.Refused e.1.last code.CountedFlow)
answer_for rows tally None = Ok (record { rows = rows; edits = map (λ e. edit_of e.0 (flow_by e.1)) tally })

-- the answer for so many rows and these totals
abbrev pub tally_answer : ℕ → List (Key × Totals) → Result CountsValue CountStop
tally_answer rows tally = answer_for rows tally (find (λ e. nat_lt 9999 (flow_by e.1)) tally)

-- the answer for rows that were read
abbrev pub answer_of : Result (List Count) CountStop → Result CountsValue CountStop
answer_of (Err other) = Err other
answer_of (Ok counts) = tally_answer (length counts) (tally_of counts)

-- the answer to a table
abbrev pub counts_of : Network → List ℕ → Result CountsValue CountStop
counts_of net table = answer_of (read_rows net 1 (records_of table))

-- a refusal is that of the answer; want of memory may come at any time
abbrev pub Refuses : Result CountsValue CountStop → CountStop → Type 0
Refuses answer (stop.Refused row code) = answer ≡ Err (stop.Refused row code)
Refuses answer stop.Memory = Unit {0}
