-- The records of a text as a list: those that were reached, and then the rest.
use Rattle.std.proofs.Common.{◌≡◌, ℕ, zero, suc, ◌+◌, ◌-◌, ◌<◌, ◌≤◌, true, false, List, [], ◌∷◌, ◌++◌, Some, None, length, refl, sym, ◌∙◌, ap}
use Rattle.std.proofs.Common.{arith, inl, inr}
use Rattle.std.proofs.lemmas.Bool.{cases_Bool}
use Rattle.std.proofs.lemmas.Option.{same_Some, cond_some}
use Rattle.csv.specs.declared.parser.Config.{Config}
use Rattle.csv.specs.declared.parser.State.{State}
use Rattle.csv.specs.declared.parser.State.TheVariants as st
use Rattle.csv.specs.declared.parser.Action.{Action}
use Rattle.csv.specs.Machine.{Read, next_record, step, is_end, ends_at_end, fields_after, field_after}
use Rattle.csv.specs.Reading.{records, records_from, records_next, Reached}

-- a step that ends a record leaves a state at which a text may end
abbrev Quiet : State × Action → Type 0
Quiet p = is_end p.1 ≡ true → ends_at_end p.0 ≡ false

step_quiet : (cfg : Config) (s : State) (c : ℕ) → Quiet (step cfg s c)
step_quiet cfg s c = grind arith

-- a record leaves a state at which the text may end, and no more of the text than there was; from such a state it takes
-- a byte at least
pub record_parts : (cfg : Config) (s : State) (fields : List (List ℕ)) (field xs : List ℕ) (r : Read)
    → next_record cfg s fields field xs ≡ Some r
    → (ends_at_end r.1 ≡ false) × (length r.2 ≤ length xs) × (ends_at_end s ≡ false → length r.2 < length xs)
unfolding next_record
record_parts cfg s fields field [] r h =
    let (ends, is) = cond_some (ends_at_end s) (fields ++ field ∷ [], st.StartRecord, []) r h in (
      ap (λ (q : Read). ends_at_end q.1) (sym is),
      omega (arith, ap (λ (q : Read). length q.2) is),
      λ quiet. absurd (cc (ends, quiet)),
    )
record_parts cfg s fields field (c ∷ rest) r h =
    elim (cases_Bool (is_end (step cfg s c).1)) [
      | inl ends ↦
          let is : (fields_after (step cfg s c).1 fields field, (step cfg s c).0, rest) ≡ r = same_Some _ r (rw ends at h) in
          let left = ap (λ (q : Read). length q.2) is in (
            ap (λ (q : Read). ends_at_end q.1) (sym is) ∙ step_quiet cfg s c ends,
            omega (arith, left),
            λ quiet. omega (arith, left),
          )
      | inr goes ↦
          let rec = record_parts cfg (step cfg s c).0 (fields_after (step cfg s c).1 fields field) (field_after (step cfg s c).1 c field) rest r
          (rw goes at h) in
          (rec.0, omega (arith, rec.1), λ quiet. omega (arith, rec.1))
    ]

-- so records that were reached are no more than the bytes taken
pub reached_few : (cfg : Config) (s : State) (xs : List ℕ) (rows : List (List (List ℕ))) (s2 : State) (ys : List ℕ)
    → ends_at_end s ≡ false → Reached cfg s xs rows s2 ys → length rows + length ys ≤ length xs
unfolding Reached
reached_few cfg s xs [] s2 ys quiet h = omega (arith, ap length h.1)
reached_few cfg s xs (r ∷ rs) s2 ys quiet h =
    let (p, at, same, rest) = h in
    let one = record_parts cfg s [] [] xs p at in
    omega (arith, one.2 quiet, reached_few cfg p.1 p.2 rs s2 ys one.0 rest)

-- the records of a text are those reached and those of what is left
pub records_split : (cfg : Config) (s : State) (xs : List ℕ) (rows : List (List (List ℕ))) (s2 : State) (ys : List ℕ) (n : ℕ)
    → Reached cfg s xs rows s2 ys → records_from cfg (length rows + n) s xs ≡ rows ++ records_from cfg n s2 ys
unfolding Reached records_from
records_split cfg s xs [] s2 ys n h =
    let same : 0 + n ≡ n = omega arith in
    rw (same, h.0, h.1)
records_split cfg s xs (r ∷ rs) s2 ys n h =
    let (p, at, same, rest) = h in
    let more : suc (length rs) + n ≡ suc (length rs + n) = omega arith in
    rw (more, at, records_split cfg p.1 p.2 rs s2 ys n rest, same)

-- no record is left where the next read finds none
pub records_none : (cfg : Config) (s : State) (ys : List ℕ) (n : ℕ) → next_record cfg s [] [] ys ≡ None → records_from cfg n s ys ≡ []
unfolding records_from
records_none cfg s ys zero none = refl
records_none cfg s ys (suc n) none = ap (records_next (records_from cfg n)) none

-- all records of a text, where some were reached
pub records_reached : (cfg : Config) (xs : List ℕ) (rows : List (List (List ℕ))) (s2 : State) (ys : List ℕ)
    → Reached cfg st.StartRecord xs rows s2 ys
    → (rest : List (List (List ℕ))) × (records cfg xs ≡ rows ++ rest) × (next_record cfg s2 [] [] ys ≡ None → rest ≡ [])
records_reached cfg xs rows s2 ys h =
    let few = reached_few cfg st.StartRecord xs rows s2 ys refl h in
    let n : ℕ = length xs + 1 - length rows in
    let same : length xs + 1 ≡ length rows + n = omega arith in (
      records_from cfg n s2 ys,
      ap (λ m. records_from cfg m st.StartRecord xs) same ∙ records_split cfg st.StartRecord xs rows s2 ys n h,
      records_none cfg s2 ys n,
    )
