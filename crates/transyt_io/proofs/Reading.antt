-- A reader of lines, by the bytes that it took and the lines that it handed out.
use Rattle.std.proofs.Common.{◌≡◌, ◌<◌, ◌≤◌, ℕ, ◌+◌, ◌++◌, Bool, true, false, List, [], ◌∷◌, map, Option, length, refl}
use Rattle.std.proofs.Common.{sym, ◌∙◌, ap, arith, append_assoc, length-append, ◌⊎◌, inl, inr}
use Rattle.std.proofs.lemmas.Bool.{cases_Bool}
use Rattle.std.proofs.lemmas.List.{append-nil}
use Rattle.transyt_io.specs.Gather.{FirstLine}
use Rattle.transyt_io.specs.Lines.{line_of, lines_by, lines, whole, has_end}
use Rattle.transyt_io.specs.Reading.{Reading, HasRead, new_reading}
use Rattle.transyt_io.specs.Streams.{IsAtEnd}
use Rattle.transyt_io.proofs.Lines.{no_whole}

-- a test doesn't both hold and fail
pub not_both : {A : Type 0} {b : Bool} → b ≡ true → b ≡ false → A
not_both holds fails = absurd (let h : true ≡ false = sym holds ∙ fails in cc)

-- a new reader has taken nothing and handed out nothing
pub new_has_read : (left : Option (List ℕ)) → HasRead new_reading left [] []
new_has_read left = record {
  count = refl;
  to_come = λ keep ys _. refl;
  at_end = λ over. not_both over refl;
  few = omega arith;
}

-- after a call that left the line in the middle, all whole lines were handed out
pub all_given : (old : Reading) (left : Option (List ℕ)) (front taken : List ℕ) (given : List (List ℕ))
    → old.ended ≡ false
    → has_end (old.held ++ front) ≡ false → HasRead old left taken given → given ≡ whole (taken ++ front)
all_given old left front taken given going none has_read =
    let told : whole (taken ++ front) ≡ given ++ whole (old.held ++ front) =
    has_read.to_come false front (λ over. not_both over going) in
    sym (told ∙ ap (λ (ls : List (List ℕ)). given ++ map line_of ls) (no_whole (old.held ++ front) none)
    ∙ append-nil given)

-- a reader that took these bytes and handed out these lines
module _ {reading : Reading} {left : Option (List ℕ)} {taken : List ℕ} {given : List (List ℕ)}
    (has_read : HasRead reading left taken given) where
  given_by : (keep : Bool) → (reading.ended ≡ true → keep ≡ true)
      → lines_by keep taken ≡ given ++ lines_by keep (reading.held ++ [])
  given_by keep h = ap (lines_by keep) (sym (append-nil taken)) ∙ has_read.to_come keep [] (λ over. (h over, refl))

  -- the lines handed out are the first of those of the bytes taken
  pub lines_given : (more : List (List ℕ)) × (lines taken ≡ given ++ more)
  lines_given = (lines (reading.held ++ []), given_by true (λ _. refl))

  -- and the first of the whole ones, where the source isn't at its end
  pub whole_given : IsAtEnd left ⊎ ((more : List (List ℕ)) × (whole taken ≡ given ++ more))
  whole_given = elim (cases_Bool reading.ended) [
    | inl over ↦ inl (has_read.at_end over)
    | inr going ↦ inr (whole (reading.held ++ []), given_by false (λ over. not_both over going))
  ]

-- one line more was handed out, and the rest of the bytes is held
pub hand_on : (old new : Reading) (left left_new : Option (List ℕ)) (got line taken : List ℕ) (given : List (List ℕ))
    → old.ended ≡ false → (new.ended ≡ true → IsAtEnd left_new) → new.taken ≡ old.taken + length got
    → FirstLine (old.held ++ got) line new.held new.ended
    → HasRead old left taken given → HasRead new left_new (taken ++ got) (given ++ line ∷ [])
hand_on old new left left_new got line taken given going at_end count first has_read =
    let lengths : length (taken ++ got) ≡ length taken + length got = length-append taken got in
    let held : length (old.held ++ got) ≡ length old.held + length got = length-append old.held got in
    let longer : length (given ++ line ∷ []) ≡ length given + 1 = length-append given (line ∷ []) in
    let had : old.taken ≡ length taken = has_read.count in
    let few : length given + length old.held ≤ length taken = has_read.few in
    let less : length new.held < length (old.held ++ got) = first.less in
    record {
      count = omega arith;
      to_come = λ keep ys over.
          ap (lines_by keep) (append_assoc taken got ys)
          ∙ has_read.to_come keep (got ++ ys) (λ over. not_both over going)
          ∙ ap (λ (xs : List ℕ). given ++ lines_by keep xs) (sym (append_assoc old.held got ys))
          ∙ ap (λ (ls : List (List ℕ)). given ++ ls) (first.cut_off keep ys over)
          ∙ sym (append_assoc given (line ∷ []) (lines_by keep (new.held ++ ys)));
      at_end = at_end;
      few = omega arith;
    }
