-- The rows while they go over from the evaluation of one network to that of another network with its shape.
use Rattle.std.specs.Prelude.{◌≡◌, ◌↔◌, ℕ, ◌<◌, ◌≤◌, ◌==◌, Bool, false, not, nat_eq, List, length}
use Rattle.std.specs.Prelude.{slice_index_or, if◌then◌else◌}
use Rattle.transyt_parts.specs.Parts.{total_flow}
use Rattle.transyt_net.specs.Parts.{Network, link_of}
use Rattle.transyt_kept.specs.Cell.{CellValue}
use Rattle.transyt_sweep.specs.Sweeps.{out_of, evaluated}
use Rattle.transyt_kept.specs.Rows.{RowsValue, shown_at}
use Rattle.transyt_sweep.specs.Reading.{with_weights}
use Rattle.transyt_sweep.specs.Front.{AreMixed, is_before}
use Rattle.transyt_track.specs.Own.{own, same_own, HaveData}
use Rattle.transyt_track.specs.Due.{read_differs}

-- the last sweep is `early` before a link at a sweep, and `late` from it on
pub record AreShownMixed (net : Network) (early late : ℕ → CellValue) (sweep link : ℕ) (rows : RowsValue) : Type 0
  where
    pub shown : (other : ℕ) → other < length net.links
        → shown_at rows other ≡ (if is_before net.frame.sweeps other sweep link then early other else late other)

-- whether the flag of a link is up
abbrev pub flag : List Bool → ℕ → Bool
flag flags link = slice_index_or flags link false

-- a flag for each link: up where the test holds of it
pub record AreFlags (test : ℕ → Bool) (link_count : ℕ) (flags : List Bool) : Type 0 where
  pub count : length flags ≡ link_count
  pub flagged : (link : ℕ) → link < link_count → flag flags link ≡ test link

-- a flag for each place, and maybe more: down exactly where the fact holds of the place
pub record AreDownWhere (fact : ℕ → Type 0) (place_count : ℕ) (flags : List Bool) : Type 0 where
  pub count : place_count ≤ length flags
  pub down : (place : ℕ) → place < place_count → (flag flags place ≡ false ↔ fact place)

-- whether a link's own data differ
abbrev pub own_differs : Network → Network → ℕ → Bool
own_differs before after link = not (same_own (own before link) (own after link))

-- whether a link's total flow differs
abbrev pub total_differs : Network → Network → ℕ → Bool
total_differs before after link =
    not (nat_eq (total_flow (link_of before link)) (total_flow (link_of after link)))

-- flags set before the first sweep: those of the links whose own data differ, the total flows of their feeders apart,
-- and those of the links whose total flow differs
pub record AreFlagged (before after : Network) (own_changed out_changed : List Bool) : Type 0 where
  pub count : length own_changed ≡ length after.links
  pub own : AreDownWhere (HaveData before after) (length after.links) own_changed
  pub totals : AreFlags (total_differs before after) (length after.links) out_changed

-- THE LAW OF THE FRONT: before a link at a sweep the rows are those of the network after, from it on those of the
-- network before; the flag of each link tells whether the departures that the link at the front reads of it differ
pub record AreAt (before after : Network) (sweep link : ℕ) (rows : RowsValue) (out_changed : List Bool) : Type 0 where
  pub outs : AreMixed after (out_of after) (out_of before) sweep link rows
  pub shown : AreShownMixed after (evaluated after) (evaluated before) sweep link rows
  pub flags : AreFlags (read_differs before after sweep link) (length after.links) out_changed

-- the rows with a link that isn't due left at a sweep: at the last sweep it is weighed anew
abbrev pub left_at : Network → ℕ → ℕ → RowsValue → RowsValue
left_at net sweep link rows = if sweep == net.frame.sweeps then with_weights rows net link else rows
