-- Rows that stand in memory in two versions each. No public clause cites them.
use Rattle.std.specs.Prelude.{◌≡◌, ℕ, zero, suc, ◌+◌, ◌*◌, ◌^◌, ◌<◌, Bool, false, List, [], ◌∷◌, length, map}
use Rattle.std.specs.Prelude.{if◌then◌else◌, slice_range, slice_index_or}
use Rattle.std.specs.List.{range_with_len}
use Rattle.transyt_kept.specs.Rows.{RowsValue, AreRows, index_in}
use Rattle.transyt_kept.specs.Marked.{KeptValue, marked_by}

-- those now, and those of the mark
pub record VersionsValue (A : Type 0) : Type 0 where
  pub now : List A
  pub mark : List A

-- where the second or the first version of a row stands
abbrev pub slot : ℕ → Bool → ℕ
slot zero second = if second then 1 else 0
slot (suc place) second = suc (suc (slot place second))

-- the bit at a place
abbrev pub bit : List Bool → ℕ → Bool
bit bits place = slice_index_or bits place false

-- of each row the version that its bit names
abbrev pub shown : {A : Type 0} → List Bool → List A → List A
shown (second ∷ bits) (x ∷ y ∷ xs) = (if second then y else x) ∷ shown bits xs
shown _ _ = []

-- the rows now and those of the mark, by the bits of both
abbrev pub versions_of : {A : Type 0} → VersionsValue Bool → List A → VersionsValue A
versions_of slots xs = record { now = shown slots.now xs; mark = shown slots.mark xs }

-- the same now as at the mark
abbrev pub both : {A : Type 0} → List A → VersionsValue A
both xs = record { now = xs; mark = xs }

-- there are two bits for each row, and not too many
pub record AreSlots (slots : VersionsValue Bool) : Type 0 where
  pub bits : length slots.mark ≡ length slots.now
  pub few : length slots.now < 2 ^ 32

-- there are two versions of each row
pub record AreVersions {A : Type 0} (slots : VersionsValue Bool) (xs : List A) : Type 0 where
  pub bits : length slots.mark ≡ length slots.now
  pub two : length xs ≡ 2 * length slots.now

-- there are two bits for each of the rows, and two versions of n values each
pub record AreRowVersions (count n : ℕ) (slots : VersionsValue Bool) (values : List ℕ) : Type 0 where
  pub now : length slots.now ≡ count
  pub mark : length slots.mark ≡ count
  pub versions : length values ≡ 2 * count * n

-- rows of n values each, one after another in these
unfoldable pub cut_rows : ℕ → ℕ → List ℕ → List (List ℕ)
cut_rows count n values = map (λ p. slice_range values (p * n) (p * n + n)) (range_with_len 0 count)

-- the invariant of rows with a mark: they have as many links now as at the mark, and the kept indexes are the sums of
-- the links' indexes
pub record AreKept (link_count : ℕ) (now mark : RowsValue) (index mark_index : ℕ) : Type 0 where
  pub rows : AreRows now
  pub links : length now.figures ≡ link_count
  pub index_sum : index ≡ index_in now
  pub mark_rows : AreRows mark
  pub mark_links : length mark.figures ≡ link_count
  pub mark_index_sum : mark_index ≡ index_in mark

-- rows now, and those of the mark, which count only where one is open
abbrev pub kept_of : Bool → RowsValue → RowsValue → KeptValue
kept_of is_open now mark = record { now = now; marked = marked_by is_open mark }
