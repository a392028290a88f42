-- A row by its fields one by one, and what a row without a code keeps to.
use Rattle.std.proofs.Common.{◌≡◌, ℕ, suc, ◌<◌, ◌≤◌, arith, List, [], ◌∷◌, Option, Some, None, Ok, Err, refl}
use Rattle.std.proofs.lemmas.Bool.Decides.{nat_tests}
use Rattle.std.proofs.lemmas.Option.{same_Some}
use Rattle.csv.specs.Records.{field_at}
use Rattle.transyt_syntax.specs.declared.code.Code.TheVariants as code
use Rattle.transyt_net.specs.Parts.{Network}
use Rattle.transyt_counts.specs.declared.row.Count.{Count}
use Rattle.transyt_counts.specs.Rows.{count_of, count_code, key_code, judged, read_row}

-- where one of the first four fields is wanting a row hasn't four
pub no_field : (net : Network) (row k : ℕ) (fs : List (List ℕ)) → k < 4 → field_at fs k ≡ None → read_row net row fs ≡ Err code.WrongCount
unfolding field_at
no_field net row k [] low none = refl
no_field net row k (a ∷ []) low none = refl
no_field net row k (a ∷ b ∷ []) low none = refl
no_field net row k (a ∷ b ∷ c ∷ []) low none = refl
no_field net row (suc (suc (suc (suc k)))) (a ∷ b ∷ c ∷ d ∷ []) low none = absurd (omega arith)
no_field net row k (a ∷ b ∷ c ∷ d ∷ []) low none = absurd (cc)
no_field net row k (a ∷ b ∷ c ∷ d ∷ e ∷ fs) low none = refl

-- and where there is a fifth
pub a_fifth : (net : Network) (row : ℕ) (fs : List (List ℕ)) (e : List ℕ) → field_at fs 4 ≡ Some e → read_row net row fs ≡ Err code.WrongCount
unfolding field_at
a_fifth net row (a ∷ b ∷ c ∷ d ∷ []) e some = absurd (cc)
a_fifth net row fs e some = refl

-- a row of four fields
pub just_four : (net : Network) (row : ℕ) (fs : List (List ℕ)) (a b c d : List ℕ)
    → field_at fs 0 ≡ Some a → field_at fs 1 ≡ Some b → field_at fs 2 ≡ Some c → field_at fs 3 ≡ Some d → field_at fs 4 ≡ None
    → read_row net row fs ≡ judged net (count_of row a b c d)
unfolding field_at
just_four net row (p ∷ q ∷ r ∷ s ∷ []) a b c d is_a is_b is_c is_d no_more =
    rw (same_Some p a is_a, same_Some q b is_b, same_Some r c is_c, same_Some s d is_d)
just_four net row fs a b c d is_a is_b is_c is_d no_more = absurd (cc)

-- the facts of a row without a code
pub record IsGood (net : Network) (c : Count) : Type 0 where
  pub vehicles : c.vehicles ≤ 999999
  pub minutes : (1 ≤ c.minutes) × (c.minutes ≤ 1440)
  pub key : key_code net c.key ≡ None

judged_ok : (net : Network) (o : Option Count) (d : Count) → judged net o ≡ Ok d → count_code net d ≡ None
judged_ok net o d h = grind (arith, h)

good_count : (net : Network) (c : Count) → count_code net c ≡ None → IsGood net c
good_count net c none = record {
  vehicles = grind (arith, nat_tests, none);
  minutes = (grind (arith, nat_tests, none), grind (arith, nat_tests, none));
  key = grind (arith, nat_tests, none);
}

-- a row without a code keeps to its bounds
pub good_row : (net : Network) (row : ℕ) (fs : List (List ℕ)) (c : Count) → read_row net row fs ≡ Ok c → IsGood net c
good_row net row (p ∷ q ∷ r ∷ s ∷ []) c h = good_count net c (judged_ok net (count_of row p q r s) c h)
good_row net row fs c h = absurd (cc)
