-- The greatest and the least of fractions.
use Rattle.std.proofs.Common.{◌≡◌, ◌<◌, Bool, true, false, List, [], ◌∷◌, All, arith, length, if◌then◌else◌}
use Rattle.std.specs.List.{fold}
use Rattle.std.proofs.lemmas.Bool.{cond_both}
use Rattle.std.proofs.lemmas.List.Elements.{All-head, All-tail, All-nil, All-cons}
use Rattle.transyt_equisat.specs.declared.fraction.Fraction.{Fraction}
use Rattle.transyt_equisat.specs.Degrees.{is_above, greatest, nothing}
use Rattle.transyt_equisat.specs.Balance.{least_of}
use Rattle.transyt_equisat.proofs.FractionLaws.{not_above, not_above-trans, above_not}

-- a test of two fractions that orders them
pub record IsOrder (over : Fraction → Fraction → Bool) : Type 0 where
  pub self : (a : Fraction) → over a a ≡ false
  pub trans : (a b c : Fraction) → 0 < b.base → over a b ≡ false → over b c ≡ false → over a c ≡ false
  pub one_way : (a b : Fraction) → over a b ≡ true → over b a ≡ false

-- to be above is one
above : IsOrder is_above
above = record { self = λ a. not_above a a (omega arith); trans = not_above-trans; one_way = above_not }

-- and so is to be below
below : IsOrder (λ a b. is_above b a)
below = record {
  self = λ a. not_above a a (omega arith);
  trans = λ a b c base ab bc. not_above-trans c b a base bc ab;
  one_way = λ a b is. above_not b a is;
}

-- of two the one that is over the other, the first where neither is
abbrev over_of : (Fraction → Fraction → Bool) → Fraction → Fraction → Fraction
over_of over a d = if over d a then d else a

-- a fact about the first number and each other one holds for the greatest
pub extreme_has : (over : Fraction → Fraction → Bool) (P : Fraction → Type 0) (ds : List Fraction) (a : Fraction) → P a → All P ds
    → P (fold (over_of over) a ds)
extreme_has over P [] a pa all = pa
extreme_has over P (d ∷ ds) a pa all =
    extreme_has over P ds (over_of over a d) (cond_both (over d a) d a P (λ is. All-head P d ds all) (λ not_so. pa))
    (All-tail P d ds all)

-- neither is over the one chosen
neither_over : (over : Fraction → Fraction → Bool) → IsOrder over → (a d : Fraction)
    → (over a (over_of over a d) ≡ false) × (over d (over_of over a d) ≡ false)
neither_over over order a d = grind (arith, order.self a, order.self d, order.one_way d a)

-- a positive base
abbrev pub HasBase : Fraction → Type 0
HasBase d = 0 < d.base

-- neither the first nor any of the others is over the one that is over them
none_over : (over : Fraction → Fraction → Bool) → IsOrder over → (ds : List Fraction) (a : Fraction) → 0 < a.base → All HasBase ds
    → All (λ d. over d (fold (over_of over) a ds) ≡ false) (a ∷ ds)
none_over over order [] a base bases = All-cons (λ d. over d a ≡ false) a [] (order.self a) (All-nil (λ d. over d a ≡ false))
none_over over order (d ∷ ds) a base bases =
    let next : Fraction = over_of over a d in
    let end : Fraction = fold (over_of over) a (d ∷ ds) in
    let Under : Fraction → Type 0 = λ x. over x end ≡ false in
    let next_base = cond_both (over d a) d a HasBase (λ is. All-head HasBase d ds bases) (λ not_so. base) in
    let rest = none_over over order ds next next_base (All-tail HasBase d ds bases) in
    let last = All-head Under next ds rest in
    let two = neither_over over order a d in
    All-cons Under a (d ∷ ds) (order.trans a next end next_base two.0 last)
    (All-cons Under d ds (order.trans d next end next_base two.1 last) (All-tail Under next ds rest))

-- none is above the greatest
pub all_under : (ds : List Fraction) → All HasBase ds → All (λ d. is_above d (greatest ds) ≡ false) ds
all_under ds bases =
    All-tail (λ d. is_above d (greatest ds) ≡ false) nothing ds (none_over is_above above ds nothing (omega arith) bases)

-- the least of some has what all have
pub least_of_some : (P : Fraction → Type 0) (ds : List Fraction) → 0 < length ds → All P ds → P (least_of ds)
least_of_some P [] some all = absurd (omega arith)
least_of_some P (d ∷ ds) some all = extreme_has (λ a b. is_above b a) P ds d (All-head P d ds all) (All-tail P d ds all)

-- the least of fractions is above none of them
pub least_under : (ds : List Fraction) → All HasBase ds → All (λ d. is_above (least_of ds) d ≡ false) ds
least_under [] bases = All-nil (λ d. is_above nothing d ≡ false)
least_under (d ∷ ds) bases =
    none_over (λ a b. is_above b a) below ds d (All-head HasBase d ds bases) (All-tail HasBase d ds bases)
