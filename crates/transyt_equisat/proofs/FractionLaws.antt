-- Laws of fractions compared by cross-multiplication.
use Rattle.std.proofs.Common.{◌≡◌, ℕ, ◌*◌, ◌<◌, ◌≤◌, Bool, true, false, arith}
use Rattle.std.proofs.Math.Nat.{mul-le-mul_left, le_of_mul-le-mul_right}
use Rattle.std.proofs.lemmas.Bool.{cases_Bool, ltb-true, ltb-false, le-ltb}
use Rattle.transyt_equisat.specs.declared.fraction.Fraction.{Fraction}
use Rattle.transyt_equisat.specs.declared.demand.Demand.{Demand}
use Rattle.transyt_equisat.specs.Degrees.{is_above, AtMost, IsSame}
use Rattle.transyt_equisat.specs.Sharing.{degree_of}

-- a fraction that isn't above another is at most the other
pub at_most : (a b : Fraction) → is_above a b ≡ false → AtMost a b
at_most a b h = ltb-false (b.top * a.base) (a.top * b.base) h

-- and the other way round
pub not_above : (a b : Fraction) → AtMost a b → is_above a b ≡ false
not_above a b h = le-ltb (b.top * a.base) (a.top * b.base) h

-- at most what is at most a third
pub at_most-trans : (a b c : Fraction) → 0 < b.base → AtMost a b → AtMost b c → AtMost a c
at_most-trans a b c pos ab bc =
    le_of_mul-le-mul_right {k = b.base} (omega (arith, mul-le-mul_left c.base ab, mul-le-mul_left a.base bc)) pos

-- equal to what is equal to a third
pub same-trans : (a b c : Fraction) → 0 < b.base → IsSame a b → IsSame b c → IsSame a c
same-trans a b c pos ab bc =
    let down = at_most-trans a b c pos (omega (arith, ab)) (omega (arith, bc)) in
    let up = at_most-trans c b a pos (omega (arith, bc)) (omega (arith, ab)) in
    omega arith

-- a fraction that is at most one that isn't above a third isn't above it either
pub not_above-trans : (a b c : Fraction) → 0 < b.base → is_above a b ≡ false → is_above b c ≡ false → is_above a c ≡ false
not_above-trans a b c pos ab bc = not_above a c (at_most-trans a b c pos (at_most a b ab) (at_most b c bc))

-- a fraction that is above another isn't at most the other
pub above_not : (a b : Fraction) → is_above a b ≡ true → is_above b a ≡ false
above_not a b above = not_above b a (omega (arith, ltb-true (b.top * a.base) (a.top * b.base) above))

-- with more green the degree of a demand is no greater
pub degree_falls : (steps : ℕ) (d : Demand) (e f : ℕ) → e ≤ f → is_above (degree_of steps d f) (degree_of steps d e) ≡ false
degree_falls steps d e f more =
    not_above (degree_of steps d f) (degree_of steps d e) (mul-le-mul_left (d.flow * steps) (mul-le-mul_left d.saturation more))

-- a Bool that is false wherever another is, and the other way round
both_ways : (a b : Bool) → (a ≡ false → b ≡ false) → (b ≡ false → a ≡ false) → a ≡ b
both_ways a b ab ba = grind (arith, cases_Bool a, cases_Bool b)

module _ (v w d : Fraction) (same : IsSame v w) (v_base : 0 < v.base) (w_base : 0 < w.base) where
  -- a fraction above one of two equal ones is above the other
  pub same_above : is_above d v ≡ is_above d w
  same_above =
      both_ways (is_above d v) (is_above d w)
      (λ under. not_above-trans d v w v_base under (not_above v w (omega (arith, same))))
      (λ under. not_above-trans d w v w_base under (not_above w v (omega (arith, same))))

  -- and so is what is below
  pub same_below : is_above v d ≡ is_above w d
  same_below =
      both_ways (is_above v d) (is_above w d)
      (λ under. not_above-trans w v d v_base (not_above w v (omega (arith, same))) under)
      (λ under. not_above-trans v w d w_base (not_above v w (omega (arith, same))) under)
