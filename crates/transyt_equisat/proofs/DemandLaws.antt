-- A bound on the degree of a stage's greatest demand bounds each of its counted links, since none asks for more.
use Rattle.std.proofs.Common.{◌≡◌, ℕ, ◌+◌, ◌*◌, ◌<◌, ◌≤◌, Bool, true, false, not, ◌&&◌, List, [], ◌∷◌, All, arith, length, get_or}
use Rattle.std.proofs.Common.{◌∙◌, ap, inl, inr, ltb-true, ltb-false, lt-ltb}
use Rattle.std.specs.List.{list_all, filter, fold}
use Rattle.std.proofs.Math.Nat.{mul-le-mul_left, mul-pos}
use Rattle.std.proofs.lemmas.Bool.{cases_Bool, not-true, true_from_ne_false}
use Rattle.std.proofs.lemmas.List.Elements.{All-head, All-tail}
use Rattle.std.proofs.lemmas.List.FromFn.{get_or-map-range_with_len}
use Rattle.transyt_parts.specs.Parts.{LinkValue, NodeValue}
use Rattle.transyt_net.specs.Parts.{Network}
use Rattle.transyt_equisat.specs.declared.fraction.Fraction.{Fraction}
use Rattle.transyt_equisat.specs.declared.demand.Demand.{Demand}
use Rattle.transyt_equisat.specs.Degrees.{is_above, counts_in, degree}
use Rattle.transyt_equisat.specs.Sharing.{demand_of, degree_of, heavier, heavier_of, demand_in, no_demand, asked_of}
use Rattle.transyt_equisat.proofs.FractionLaws.{not_above, not_above-trans}

-- a test that lesser fractions pass too, and what nothing asks of a green
pub record IsLower (test : Fraction → Bool) : Type 0 where
  pub lesser : (a b : Fraction) → 0 < a.base → 0 < b.base → is_above a b ≡ false → test b ≡ true → test a ≡ true
  pub none : (steps e : ℕ) → 0 < e → test (degree_of steps no_demand e) ≡ true

-- a demand that is no greater has no greater degree
pub degree_orders : (steps e : ℕ) (a b : Demand) → a.flow * b.saturation ≤ b.flow * a.saturation
    → is_above (degree_of steps a e) (degree_of steps b e) ≡ false
degree_orders steps e a b less =
    not_above (degree_of steps a e) (degree_of steps b e) (omega (arith, mul-le-mul_left (steps * e) less))

skipped : (x y z : Bool) → (x ≡ true → y ≡ true) → (y && (x && z)) ≡ (x && z)
skipped x y z more = grind (arith, more)

kept : (x y z : Bool) → (y ≡ true → x ≡ true) → (y && (x && z)) ≡ (y && z)
kept x y z more = grind (arith, more)

and_true : (x : Bool) → (x && true) ≡ x
and_true x = grind arith

-- the links passed and the demand so far pass where the demand after them does
all_tested : {test : Fraction → Bool} → IsLower test → (steps number stage e : ℕ) → 0 < e
    → (ls : List LinkValue) → All (λ l. 0 < l.saturation) ls → (d : Demand) → 0 < d.saturation
    → (test (degree_of steps d e) && list_all (λ l. test (degree steps l e)) (filter (counts_in number stage) ls))
    ≡ test (degree_of steps (fold (heavier_of number stage) d ls) e)
all_tested {test} lower steps number stage e some [] live d alive = and_true (test (degree_of steps d e))
all_tested {test} lower steps number stage e some (l ∷ ls) live d alive =
    let here : 0 < l.saturation = All-head (λ l. 0 < l.saturation) l ls live in
    let rest = all_tested lower steps number stage e some ls (All-tail (λ l. 0 < l.saturation) l ls live) in
    elim (cases_Bool (counts_in number stage l)) [
      | inr left ↦ rw (fold, left) (rest d alive)
      | inl counts ↦ elim (cases_Bool (heavier (demand_of l) d)) [
        | inl more ↦
            let under = degree_orders steps e d (demand_of l) (omega (arith, ltb-true _ _ more)) in
            rw (fold, counts, more) (skipped _ _ _ (lower.lesser (degree_of steps d e) (degree steps l e)
            (mul-pos alive some) (mul-pos here some) under) ∙ rest (demand_of l) here)
        | inr fails ↦
            let under = degree_orders steps e (demand_of l) d (ltb-false _ _ fails) in
            rw (fold, counts, fails) (kept _ _ _ (lower.lesser (degree steps l e) (degree_of steps d e)
            (mul-pos here some) (mul-pos alive some) under) ∙ rest d alive)
      ]
    ]

-- the demand of the stage at a place
pub demand_there : (net : Network) (n : NodeValue) (k : ℕ) → k < length n.stages
    → get_or (asked_of net n).demands k no_demand ≡ demand_in net n.number (k + 1)
demand_there net n k inside =
    get_or-map-range_with_len (λ k. demand_in net n.number (k + 1)) 0 (length n.stages) k k no_demand inside (omega arith)

-- the counted links of a stage pass where its demand does
pub stage_tested : {test : Fraction → Bool} → IsLower test → (net : Network) (n : NodeValue) (k e : ℕ) → 0 < e
    → k < length n.stages → All (λ l. 0 < l.saturation) net.links
    → list_all (λ l. test (degree net.frame.step_count l e)) (filter (counts_in n.number (k + 1)) net.links)
    ≡ test (degree_of net.frame.step_count (get_or (asked_of net n).demands k no_demand) e)
stage_tested lower net n k e some inside live =
    let all = all_tested lower net.frame.step_count n.number (k + 1) e some net.links live no_demand (omega arith) in
    rw (demand_there net n k inside) (rw (lower.none net.frame.step_count e some) at all)

-- not to be above v is such a test
pub not_above_lower : (v : Fraction) → IsLower (λ d. not (is_above d v))
not_above_lower v = record {
  lesser = λ a b a_base b_base less passes. ap not (not_above-trans a b v b_base less (not-true (is_above b v) passes));
  none = λ steps e some. ap not (not_above (degree_of steps no_demand e) v (omega arith));
}

-- to be below v is one too, where v is above 0
pub below_lower : (v : Fraction) → 0 < v.top → IsLower (λ d. is_above v d)
below_lower v above = record {
  lesser = λ a b a_base b_base less passes.
      true_from_ne_false (is_above v a) (λ fails. cc (not_above-trans v a b a_base fails less, passes));
  none = λ steps e some. lt-ltb _ _ (omega (arith, mul-pos above some));
}
