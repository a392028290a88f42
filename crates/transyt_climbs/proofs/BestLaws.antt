-- The best of the rows before a place, row by row.
use Rattle.std.proofs.Common.{◌≡◌, ℕ, ◌+◌, ◌<◌, ◌≤◌, nat_le, List, get_or, Option, Some, None, ◌∙◌, ap}
use Rattle.std.proofs.Common.{arith, inl, inr, ◌⊎◌, refl}
use Rattle.std.proofs.lemmas.Bool.{cases_lt, cond_both, leb-true, leb-false}
use Rattle.transyt_climbs.specs.declared.row.NetworkRow.{NetworkRow}
use Rattle.transyt_climbs.specs.declared.row.NetworkRow.TheVariants as row
use Rattle.transyt_climbs.specs.declared.ranking.BestRow.{BestRow}
use Rattle.transyt_climbs.specs.Climbs.{AreBest, IsBestOf, better, first_lower, end_at, end_index}

before_or_at : (k n : ℕ) → k < n + 1 → (k < n) ⊎ (k ≡ n)
before_or_at k n below =
    elim (cases_lt k n) [
      | inl less ↦ inl less
      | inr more ↦ inr (omega (arith, below, more))
    ]

not_both : {x : Option ℕ} {to : ℕ} → x ≡ None → x ≡ Some to → ⊥
not_both none some = let never : ⊥ = cc in never

same_end : {x : Option ℕ} {to other : ℕ} → x ≡ Some to → x ≡ Some other → to ≡ other
same_end one two = cc

module _ (rows : List NetworkRow) (place : ℕ) where
  -- a row that isn't climbed changes nothing
  passed_best : (b : BestRow) → end_at rows place ≡ None → IsBestOf rows place b → IsBestOf rows (place + 1) b
  passed_best b none h = record {
    within = let within = h.within in omega (arith, within);
    own = h.own;
    least = λ k to below at.
        elim (before_or_at k place below) [
          | inl less ↦ h.least k to less at
          | inr same ↦ absurd (not_both (ap (end_at rows) same ∙ none) at)
        ];
    first = h.first;
  }

  passed : (found : Option BestRow) → end_at rows place ≡ None → AreBest rows place found → AreBest rows (place + 1) found
  passed (Some b) none h = passed_best b none h
  passed None none h = λ k below.
      elim (before_or_at k place below) [
        | inl less ↦ h k less
        | inr same ↦ ap (end_at rows) same ∙ none
      ]

  -- the first climbed row is the best
  begun : (number to : ℕ) → end_at rows place ≡ Some to → AreBest rows place None
      → IsBestOf rows (place + 1) (record { place = place; number = number; to = to })
  begun number to own h = record {
    within = omega arith;
    own = own;
    least = λ k other below at.
        elim (before_or_at k place below) [
          | inl less ↦ absurd (not_both (h k less) at)
          | inr same ↦ let is : to ≡ other = same_end (ap (end_at rows) same ∙ own) at in omega (arith, is)
        ];
    first = λ k other below at. absurd (not_both (h k below) at);
  }

  -- one whose index isn't lower leaves the best
  kept : (b : BestRow) (to : ℕ) → end_at rows place ≡ Some to → b.to ≤ to → IsBestOf rows place b
      → IsBestOf rows (place + 1) b
  kept b to own above h = record {
    within = let within = h.within in omega (arith, within);
    own = h.own;
    least = λ k other below at.
        elim (before_or_at k place below) [
          | inl less ↦ h.least k other less at
          | inr same ↦ let is : to ≡ other = same_end (ap (end_at rows) same ∙ own) at in omega (arith, is, above)
        ];
    first = h.first;
  }

  -- one whose index is lower is the best
  taken : (b : BestRow) (number to : ℕ) → end_at rows place ≡ Some to → to < b.to → IsBestOf rows place b
      → IsBestOf rows (place + 1) (record { place = place; number = number; to = to })
  taken b number to own lower h = record {
    within = omega arith;
    own = own;
    least = λ k other below at.
        elim (before_or_at k place below) [
          | inl less ↦ let least = h.least k other less at in omega (arith, least, lower)
          | inr same ↦ let is : to ≡ other = same_end (ap (end_at rows) same ∙ own) at in omega (arith, is)
        ];
    first = λ k other below at. let least = h.least k other below at in omega (arith, least, lower);
  }

  climbed : (found : Option BestRow) (number to : ℕ) → end_at rows place ≡ Some to → AreBest rows place found
      → IsBestOf rows (place + 1) (first_lower found (record { place = place; number = number; to = to }))
  climbed None number to own h = begun number to own h
  climbed (Some b) number to own h =
      cond_both (nat_le b.to to) b (record { place = place; number = number; to = to }) (IsBestOf rows (place + 1))
      (λ yes. kept b to own (leb-true b.to to yes) h)
      (λ no. taken b number to own (leb-false b.to to no) h)

  by_row : (found : Option BestRow) (r : NetworkRow) → get_or rows place (row.NoPlan 0) ≡ r → AreBest rows place found
      → AreBest rows (place + 1) (better found place r)
  by_row found (row.NoPlan number) is h = passed found (ap end_index is) h
  by_row found (row.Barred number node) is h = passed found (ap end_index is) h
  by_row found (row.Climbed c) is h = climbed found c.number c.to (ap end_index is) h

  -- the best with the row at a place
  pub with_row : (found : Option BestRow) → AreBest rows place found
      → AreBest rows (place + 1) (better found place (get_or rows place (row.NoPlan 0)))
  with_row found h = by_row found (get_or rows place (row.NoPlan 0)) refl h
