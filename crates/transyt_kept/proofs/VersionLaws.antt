-- A version that is written is shown by the bits that name it, and by no others.
use Rattle.std.proofs.Common.{◌≡◌, ℕ, zero, suc, ◌+◌, ◌*◌, ◌<◌, Bool, true, false, not, List, [], ◌∷◌, length, set, get_or}
use Rattle.std.proofs.Common.{replicate, refl, ap, sym, ◌∙◌, arith, if◌then◌else◌}
use mir.Val.{bool_byte}
use Rattle.transyt_kept.specs.Versions.{VersionsValue, slot, bit, shown, versions_of, AreVersions}

-- where a version stands, as a number
pub slot_is : (p : ℕ) (b : Bool) → slot p b ≡ 2 * p + (if b then 1 else 0)
slot_is zero true = refl
slot_is zero false = refl
slot_is (suc p) b = let before = slot_is p b in omega (arith, before)

-- by its bit as a number
pub slot_byte : (p : ℕ) (b : Bool) → 2 * p + bool_byte b ≡ slot p b
slot_byte p true = sym (slot_is p true)
slot_byte p false = sym (slot_is p false)

-- it stands among them
pub slot_inside : (p n : ℕ) (b : Bool) → p < n → slot p b < 2 * n
slot_inside p n true inside = let is : slot p true ≡ 2 * p + 1 = slot_is p true in omega (arith, is, inside)
slot_inside p n false inside = let is : slot p false ≡ 2 * p + 0 = slot_is p false in omega (arith, is, inside)

not_twice : (b : Bool) → b ≡ not (not b)
not_twice true = refl
not_twice false = refl

module _ {A : Type 0} where
  -- a row is written in the version that its bit names then
  pub shown_put : (bits : List Bool) (xs : List A) → length xs ≡ 2 * length bits → (p : ℕ) (b : Bool) (x : A)
      → p < length bits → shown (set bits p b) (set xs (slot p b) x) ≡ set (shown bits xs) p x
  shown_put [] xs long p b x inside = absurd (omega (arith, inside))
  shown_put (c ∷ bits) [] long p b x inside = absurd (omega (arith, long))
  shown_put (c ∷ bits) (r ∷ []) long p b x inside = absurd (omega (arith, long))
  shown_put (c ∷ bits) (r ∷ s ∷ xs) long zero true x inside = refl
  shown_put (c ∷ bits) (r ∷ s ∷ xs) long zero false x inside = refl
  shown_put (c ∷ bits) (r ∷ s ∷ xs) long (suc p) b x inside =
      ap (λ rest. (if c then s else r) ∷ rest) (shown_put bits xs (omega (arith, long)) p b x (omega (arith, inside)))

  -- bits that name the other version show what they did
  pub shown_keep : (bits : List Bool) (xs : List A) (p : ℕ) (b : Bool) (x : A) → get_or bits p false ≡ not b
      → p < length bits → shown bits (set xs (slot p b) x) ≡ shown bits xs
  shown_keep [] xs p b x other inside = refl
  shown_keep (c ∷ bits) [] p b x other inside = refl
  shown_keep (c ∷ bits) (r ∷ []) zero true x other inside = refl
  shown_keep (c ∷ bits) (r ∷ []) zero false x other inside = refl
  shown_keep (c ∷ bits) (r ∷ []) (suc p) b x other inside = refl
  shown_keep (c ∷ bits) (r ∷ s ∷ xs) zero true x other inside =
      ap (λ d. (if d then x else r) ∷ shown bits xs) other
      ∙ ap (λ d. (if d then s else r) ∷ shown bits xs) (sym other)
  shown_keep (c ∷ bits) (r ∷ s ∷ xs) zero false x other inside =
      ap (λ d. (if d then s else x) ∷ shown bits xs) other
      ∙ ap (λ d. (if d then s else r) ∷ shown bits xs) (sym other)
  shown_keep (c ∷ bits) (r ∷ s ∷ xs) (suc p) b x other inside =
      ap (λ rest. (if c then s else r) ∷ rest) (shown_keep bits xs p b x other (omega (arith, inside)))

  -- the row that is shown at a place
  pub shown_at : (bits : List Bool) (xs : List A) (d : A) → length xs ≡ 2 * length bits → (p : ℕ) → p < length bits
      → get_or xs (slot p (get_or bits p false)) d ≡ get_or (shown bits xs) p d
  shown_at [] xs d long p inside = absurd (omega (arith, inside))
  shown_at (c ∷ bits) [] d long p inside = absurd (omega (arith, long))
  shown_at (c ∷ bits) (r ∷ []) d long p inside = absurd (omega (arith, long))
  shown_at (true ∷ bits) (r ∷ s ∷ xs) d long zero inside = refl
  shown_at (false ∷ bits) (r ∷ s ∷ xs) d long zero inside = refl
  shown_at (c ∷ bits) (r ∷ s ∷ xs) d long (suc p) inside =
      shown_at bits xs d (omega (arith, long)) p (omega (arith, inside))

  -- as many rows are shown as there are bits
  pub length-shown : (bits : List Bool) (xs : List A) → length xs ≡ 2 * length bits
      → length (shown bits xs) ≡ length bits
  length-shown [] xs long = refl
  length-shown (c ∷ bits) [] long = absurd (omega (arith, long))
  length-shown (c ∷ bits) (r ∷ []) long = absurd (omega (arith, long))
  length-shown (c ∷ bits) (r ∷ s ∷ xs) long = ap suc (length-shown bits xs (omega (arith, long)))

  -- of rows that are all alike each is shown
  pub shown_alike : (count : ℕ) (b : Bool) (x : A)
      → shown (replicate count b) (replicate (2 * count) x) ≡ replicate count x
  shown_alike count b x = by count
    where
      two : (n : ℕ) → replicate (2 * suc n) x ≡ x ∷ x ∷ replicate (2 * n) x
      two n = let more : 2 * suc n ≡ suc (suc (2 * n)) = omega arith in ap (λ k. replicate k x) more

      by : (n : ℕ) → shown (replicate n b) (replicate (2 * n) x) ≡ replicate n x
      by zero = refl
      by (suc n) = ap (shown (replicate (suc n) b)) (two n) ∙ same b ∙ ap (λ rest. x ∷ rest) (by n)
        where
          same : (c : Bool) → ((if c then x else x) ∷ shown (replicate n b) (replicate (2 * n) x)) ≡ x ∷ shown (replicate n b) (replicate (2 * n) x)
          same true = refl
          same false = refl

  module _ (slots : VersionsValue Bool) (xs : List A) (are : AreVersions slots xs) (view : VersionsValue A)
      (is : versions_of slots xs ≡ view) (p : ℕ) (inside : p < length view.now) where
    -- a row that is seen has its bits
    pub has_bits : p < length slots.now
    has_bits =
        omega (arith, inside, ap (λ (v : VersionsValue A). length v.now) is, length-shown slots.now xs are.two)

    -- each of its versions is there
    pub has_version : (b : Bool) → slot p b < length xs
    has_version b = omega (arith, slot_inside p (length slots.now) b has_bits, are.two)

    -- it is that of its bit
    pub version_read : (d : A) → get_or xs (slot p (bit slots.now p)) d ≡ get_or view.now p d
    version_read d = shown_at slots.now xs d are.two p has_bits ∙ ap (λ (v : VersionsValue A). get_or v.now p d) is

    -- with the version written that isn't the mark's, it is written, and the mark stays
    pub version_written : (x : A)
        → versions_of (record slots { now = set slots.now p (not (bit slots.mark p)) })
        (set xs (slot p (not (bit slots.mark p))) x) ≡ record view { now = set view.now p x }
    version_written x =
        let b = not (bit slots.mark p) in
        let now = shown_put slots.now xs are.two p b x has_bits
        ∙ ap (λ (v : VersionsValue A). set v.now p x) is in
        let mark = shown_keep slots.mark xs p b x (not_twice (bit slots.mark p)) (omega (arith, has_bits, are.bits))
        ∙ ap (λ (v : VersionsValue A). v.mark) is in
        (λ j. record { now = now j; mark = mark j })
