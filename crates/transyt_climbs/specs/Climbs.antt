-- Climbs of networks that are made out of a network: a row for each, their table, and its best row.
use Rattle.std.specs.Prelude.{ℕ, true, length, List, map, Option, Some, None, ◌≡◌, ◌+◌, ◌<◌, ◌≤◌, nat_le, [], ◌∷◌}
use Rattle.std.specs.Prelude.{slice_index_or, if◌then◌else◌}
use Rattle.std.specs.Option.{option_map_or}
use Rattle.transyt_net.specs.Parts.{Network}
use Rattle.transyt_sweep.specs.Sweeps.{index}
use Rattle.transyt_sweep.specs.Climb.{Climb, climb, ended}
use Rattle.transyt_climbs.specs.declared.row.Climbed.{Climbed}
use Rattle.std.specs.List.{range_with_len}
use Rattle.transyt_climbs.specs.declared.networks.NetworkAt.{NetworkAt}
use Rattle.transyt_climbs.specs.declared.row.NetworkRow.{NetworkRow}
use Rattle.transyt_climbs.specs.declared.ranking.BestRow.{BestRow}
use Rattle.transyt_climbs.specs.declared.networks.NetworkAt.TheVariants as plan
use Rattle.transyt_climbs.specs.declared.row.NetworkRow.TheVariants as row

-- the climb of a network by its own climb plan; without one nothing is listed, so that no move lowers its index
unfoldable pub own_climb : Network → Climb
own_climb net = option_map_or (λ plan. climb net 0 plan.budget) net.plan (ended true net 0 0)

-- the row of a climb of a network: its number, the network's index, the steps taken, how the climb ended after how many
-- looks, and the index at its end
abbrev pub row_by : ℕ → Network → Climb → Climbed
row_by number net c = record {
  number = number;
  from = index net;
  took = length c.steps;
  local = c.local;
  looked = length c.looks;
  to = index c.net;
}

-- the row of a network
abbrev pub climbed_row : ℕ → Network → Climbed
climbed_row number net = row_by number net (own_climb net)

-- the question: how many networks, the number of the row at each place, from 0, and the network there, by the
-- network that they are made out of
pub record NetworkListValue : Type 0 where
  pub count : ℕ
  pub number : ℕ → ℕ
  pub network : Network → ℕ → NetworkAt

-- the row of a network, or of the reason why there is none
abbrev pub row_of : ℕ → NetworkAt → NetworkRow
row_of number (plan.Plan net) = row.Climbed (climbed_row number net)
row_of number (plan.Barred node) = row.Barred number node
row_of number plan.NoPlan = row.NoPlan number

-- the row at a place
abbrev pub row_at : NetworkListValue → Network → ℕ → NetworkRow
row_at asked net place = row_of (asked.number place) (asked.network net place)

-- the table of a network: a row for each place
abbrev pub table : NetworkListValue → Network → List NetworkRow
table asked net = map (row_at asked net) (range_with_len 0 asked.count)

-- the network at the end of the climb, where there is a network to climb on
abbrev pub end_of : NetworkAt → Option Network
end_of (plan.Plan net) = Some (own_climb net).net
end_of _ = None

-- the better of the best so far and a later row: the later only where its index at the end is lower
abbrev pub first_lower : Option BestRow → BestRow → BestRow
first_lower None later = later
first_lower (Some best) later = if nat_le best.to later.to then best else later

-- the best so far, with the row at a place
abbrev pub better : Option BestRow → ℕ → NetworkRow → Option BestRow
better best place (row.Climbed c) = Some (first_lower best (record { place = place; number = c.number; to = c.to }))
better best place _ = best

-- the best so far, with the rows from a place on
abbrev pub best_from : Option BestRow → ℕ → List NetworkRow → Option BestRow
best_from best place [] = best
best_from best place (row ∷ rows) = best_from (better best place row) (place + 1) rows

-- the best row; none where no row is climbed
abbrev pub best : List NetworkRow → Option BestRow
best rows = best_from None 0 rows

-- the index at the end of a row, where it is climbed
abbrev pub end_index : NetworkRow → Option ℕ
end_index (row.Climbed c) = Some c.to
end_index _ = None

-- the index at the end of the row at a place, where it is climbed
abbrev pub end_at : List NetworkRow → ℕ → Option ℕ
end_at rows place = end_index (slice_index_or rows place (row.NoPlan 0))

-- of the rows before a place, the first with the least index at its end
pub record IsBestOf (rows : List NetworkRow) (count : ℕ) (b : BestRow) : Type 0 where
  pub within : b.place < count
  pub own : end_at rows b.place ≡ Some b.to
  pub least : (k to : ℕ) → k < count → end_at rows k ≡ Some to → b.to ≤ to
  pub first : (k to : ℕ) → k < b.place → end_at rows k ≡ Some to → b.to < to

-- the best of the rows before a place: the first with the least index at its end, or none where none is climbed
abbrev pub AreBest : List NetworkRow → ℕ → Option BestRow → Type 0
AreBest rows count (Some b) = IsBestOf rows count b
AreBest rows count None = (k : ℕ) → k < count → end_at rows k ≡ None
