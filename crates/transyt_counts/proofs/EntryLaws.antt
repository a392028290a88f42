-- Entries passed one by one.
use Rattle.std.proofs.Common.{◌≡◌, ℕ, ◌+◌, Bool, true, false, List, [], ◌∷◌, ◌++◌, map, take, drop, Some, slice_get, nat_lt}
use Rattle.std.specs.List.{find}
use Rattle.std.proofs.Common.{All, Ok, length, ◌≤◌, ◌<◌, refl, subst, arith}
use Rattle.std.proofs.lemmas.Bool.Decides.{nat_tests}
use Rattle.std.proofs.lemmas.List.{drop_more, map_more, drop_all, take_all}
use Rattle.std.proofs.lemmas.List.Elements.{All-get_or}
use Rattle.std.proofs.lemmas.Option.{slice_get_within, get_or_from_slice_get}
use Rattle.transyt_net.specs.declared.edit.Edit.{Edit}
use Rattle.transyt_counts.specs.declared.key.Key.{Key}
use Rattle.transyt_counts.specs.declared.tally.Totals.{Totals}
use Rattle.transyt_counts.specs.Rows.{edit_of}
use Rattle.transyt_counts.specs.Counts.{flow_by, tally_answer}

-- whether the flow of a key's totals is too great, and the edit of them
abbrev pub is_too_great : Key × Totals → Bool
is_too_great e = nat_lt 9999 (flow_by e.1)

abbrev pub edit_by : Key × Totals → Edit
edit_by e = edit_of e.0 (flow_by e.1)

-- a flow is too great, or not, as its number tells
pub great_by : (flow : ℕ) (e : Key × Totals) → flow ≡ flow_by e.1 → 9999 < flow → is_too_great e ≡ true
great_by flow e same above = grind (arith, nat_tests, same, above)

pub small_by : (flow : ℕ) (e : Key × Totals) → flow ≡ flow_by e.1 → flow ≤ 9999 → is_too_great e ≡ false
small_by flow e same within = grind (arith, nat_tests, same, within)

module _ {A : Type 0} (xs : List A) (p : ℕ) (x : A) (at : slice_get xs p ≡ Some x) where
  -- the search goes on behind what fails
  pub find_skip : (test : A → Bool) → test x ≡ false → find test (drop (p + 1) xs) ≡ find test (drop p xs)
  find_skip test fails = rw (drop_more xs p x (slice_get_within xs p x at), get_or_from_slice_get xs p x x at, fails)

  -- and ends at what passes
  pub find_hit : (test : A → Bool) → test x ≡ true → find test (drop p xs) ≡ Some x
  find_hit test passes = rw (drop_more xs p x (slice_get_within xs p x at), get_or_from_slice_get xs p x x at, passes)

  -- one more of a list
  pub map_take : {B : Type 0} (f : A → B) → map f (take (p + 1) xs) ≡ map f (take p xs) ++ f x ∷ []
  map_take f = rw (map_more f xs p x (slice_get_within xs p x at), get_or_from_slice_get xs p x x at)

  -- what is known of all is known of it
  pub one_of : (P : A → Type 0) → All P xs → P x
  one_of P all = subst P (get_or_from_slice_get xs p x x at) (All-get_or P xs p x (slice_get_within xs p x at) all)

-- entries all passed
pub all_passed : (rows p : ℕ) (es : List (Key × Totals)) (edits : List Edit) → length es ≤ p → edits ≡ map edit_by (take p es)
    → find is_too_great (drop p es) ≡ find is_too_great es
    → tally_answer rows es ≡ Ok (record { rows = rows; edits = edits })
all_passed rows p es edits done made passed =
    rw (← passed, drop_all p es done) (rw (made, take_all p es done) refl)
