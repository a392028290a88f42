-- A table of rows in two versions, by the values of all versions.
use Rattle.std.proofs.Common.{◌≡◌, ℕ, ◌+◌, ◌*◌, ◌<◌, ◌≤◌, Bool, not, List, [], length, set}
use Rattle.std.proofs.Common.{refl, ap, sym, ◌∙◌, arith}
use Rattle.std.proofs.lemmas.List.{length-set}
use Rattle.transyt_kept.specs.Rows.{row}
use Rattle.transyt_kept.specs.Versions.{VersionsValue, slot, bit, versions_of, cut_rows, AreVersions, AreRowVersions}
use Rattle.transyt_kept.proofs.FlatLaws.{piece, written, cut_length, cut_row, cut_room, cut_steps, cut_written, length-written}
use Rattle.transyt_kept.proofs.VersionLaws.{has_bits, has_version, version_read, version_written}

module _ {count n : ℕ} {slots : VersionsValue Bool} {values : List ℕ} (are : AreRowVersions count n slots values)
    (view : VersionsValue (List ℕ)) (is : versions_of slots (cut_rows (2 * count) n values) ≡ view) (p : ℕ)
    (inside : p < length view.now) where
  versions : AreVersions slots (cut_rows (2 * count) n values)
  versions = record {
    bits = are.mark ∙ sym are.now;
    two = cut_length (2 * count) n values ∙ ap (λ k. 2 * k) (sym are.now);
  }

  -- a row that is seen has its bits
  pub bits_there : p < length slots.now
  bits_there = has_bits slots (cut_rows (2 * count) n values) versions view is p inside

  version_there : (b : Bool) → slot p b < 2 * count
  version_there b =
      omega (
        arith,
        has_version slots (cut_rows (2 * count) n values) versions view is p inside b,
        cut_length (2 * count) n values,
      )

  -- its versions are within the values
  pub version_within : (b : Bool) (s : ℕ) → s ≡ slot p b → s * n + n ≤ length values
  version_within b s at = cut_room (2 * count) n values are.versions s (omega (arith, at, version_there b))

  -- each has n values
  pub version_wide : (b : Bool) (s : ℕ) → s ≡ slot p b → length (piece n values s) ≡ n
  version_wide b s at =
      let there : s < 2 * count = omega (arith, at, version_there b) in
      ap length (sym (cut_row (2 * count) n values s there)) ∙ cut_steps (2 * count) n values are.versions s there

  -- it is that of its bit
  pub row_read : piece n values (slot p (bit slots.now p)) ≡ row view.now p
  row_read =
      sym (cut_row (2 * count) n values (slot p (bit slots.now p)) (version_there (bit slots.now p)))
      ∙ version_read slots (cut_rows (2 * count) n values) versions view is p inside []

  -- so it has n values
  pub row_wide : length (row view.now p) ≡ n
  row_wide = ap length (sym row_read) ∙ version_wide (bit slots.now p) _ refl

  module _ (x : List ℕ) (steps : length x ≡ n) (len : ℕ) (all : len ≡ length values) where
    -- with the version written that isn't the mark's, the row is written
    pub row_written : versions_of (record slots { now = set slots.now p (not (bit slots.mark p)) })
        (cut_rows (2 * count) n (written n values (slot p (not (bit slots.mark p))) x len))
        ≡ record view { now = set view.now p x }
    row_written =
        let other = not (bit slots.mark p) in
        ap (versions_of (record slots { now = set slots.now p other }))
        (cut_written (2 * count) n values are.versions (slot p other) (version_there other) x steps len all)
        ∙ version_written slots (cut_rows (2 * count) n values) versions view is p inside x

    -- and there are as many bits and values
    pub table_written : (b : Bool) (s : ℕ) → s ≡ slot p b
        → AreRowVersions count n (record slots { now = set slots.now p b }) (written n values s x len)
    table_written b s at = record {
      now = length-set slots.now p b ∙ are.now;
      mark = are.mark;
      versions = length-written (2 * count) n values are.versions s (omega (arith, at, version_there b)) x steps len all
          ∙ are.versions;
    }
