-- Keys: equality by test, and lists of keys of which none stands twice.
use Rattle.std.proofs.Common.{◌≡◌, Bool, true, false, cond, not, ◌&&◌, List, [], ◌∷◌, ◌++◌, map, Some, None, refl, sym, ◌∙◌, ap, arith}
use Rattle.std.proofs.Common.{inl, inr, if◌then◌else◌}
use Rattle.std.specs.List.{list_any, fold}
use Rattle.std.specs.Map.{lookup}
use Rattle.std.proofs.lemmas.Bool.{cases_Bool, or_left, or_right, false_from_ne_true}
use Rattle.std.proofs.lemmas.Bool.Decides.{nat_tests}
use Rattle.std.proofs.lemmas.List.Folds.{list_any-append}
use Rattle.indexmap.specs.IndexMap.{insert_entry}
use Rattle.transyt_counts.specs.declared.key.Key.{Key}
use Rattle.transyt_counts.specs.declared.row.Count.{Count}
use Rattle.transyt_counts.specs.declared.tally.Totals.{Totals}
use Rattle.transyt_counts.specs.Rows.{same_key}
use Rattle.transyt_counts.specs.Counts.{with_key, keys_of}

-- keys that pass the test are equal
pub key_same : (a b : Key) → same_key a b ≡ true → a ≡ b
key_same a b h = grind (arith, nat_tests, h)

-- a key passes its own test
pub key_self : (a : Key) → same_key a a ≡ true
key_self a = grind (arith, nat_tests)

-- the test goes both ways
pub key_swapped : (a b : Key) → same_key a b ≡ false → same_key b a ≡ false
key_swapped a b h = grind (arith, nat_tests, h)

-- no key stands twice
abbrev pub keys_differ : List Key → Bool
keys_differ [] = true
keys_differ (k ∷ ks) = not (list_any (same_key k) ks) && keys_differ ks

-- the first key stands nowhere else, and the others differ
pub differ_parts : (k : Key) (ks : List Key) → keys_differ (k ∷ ks) ≡ true → (list_any (same_key k) ks ≡ false) × (keys_differ ks ≡ true)
differ_parts k ks h = grind (arith, h)

-- a key that isn't there yet goes last
differ_push : (ks : List Key) (k : Key) → keys_differ ks ≡ true → list_any (same_key k) ks ≡ false → keys_differ (ks ++ k ∷ []) ≡ true
differ_push [] k differ new = refl
differ_push (j ∷ js) k differ new =
    grind (arith, nat_tests, list_any-append (same_key j) js (k ∷ []), differ_push js k, key_swapped k j)

-- a key more, where it is new: they still differ
pub differ_with : (ks : List Key) (k : Key) → keys_differ ks ≡ true → keys_differ (with_key ks k) ≡ true
differ_with ks k differ = grind (arith, differ_push ks k differ)

-- the keys of rows differ
pub fold_differ : (cs : List Count) (ks : List Key) → keys_differ ks ≡ true → keys_differ (fold (λ keys c. with_key keys c.key) ks cs) ≡ true
fold_differ [] ks differ = differ
fold_differ (c ∷ cs) ks differ = fold_differ cs (with_key ks c.key) (differ_with ks c.key differ)

-- no key of rows stands twice
pub keys_of_differ : (cs : List Count) → keys_differ (keys_of cs) ≡ true
keys_of_differ cs = fold_differ cs [] refl

-- a key that is there stays
pub any_with : (ks : List Key) (k j : Key) → list_any (same_key j) ks ≡ true → list_any (same_key j) (with_key ks k) ≡ true
any_with ks k j there = grind (arith, list_any-append (same_key j) ks (k ∷ []))

-- and the new one is there
pub any_itself : (ks : List Key) (k : Key) → list_any (same_key k) (with_key ks k) ≡ true
any_itself ks k = grind (arith, list_any-append (same_key k) ks (k ∷ []), key_self k)

-- functions that agree at the keys that are there
pub map_same : {A : Type 0} (f g : Key → A) (ks : List Key) → ((j : Key) → list_any (same_key j) ks ≡ true → f j ≡ g j) → map f ks ≡ map g ks
map_same f g [] agree = refl
map_same f g (k ∷ ks) agree =
    rw (agree k (or_left _ _ (key_self k)), map_same f g ks (λ j there. agree j (or_right _ _ there)))

cond_front : (b : Bool) (j : Key) (js : List Key) (k : Key) → cond b (j ∷ js) ((j ∷ js) ++ k ∷ []) ≡ j ∷ cond b js (js ++ k ∷ [])
cond_front b j js k = grind arith

-- an entry written over a list of keys with their values
pub insert_over : (f g : Key → Totals) (k : Key) (v : Totals) (ks : List Key) → keys_differ ks ≡ true
    → ((j : Key) → same_key k j ≡ false → f j ≡ g j) → v ≡ g k
    → insert_entry same_key (map (λ j. (j, f j)) ks) k v ≡ map (λ j. (j, g j)) (with_key ks k)
insert_over f g k v [] differ others is = ap (λ w. (k, w) ∷ []) is
insert_over f g k v (j ∷ js) differ others is =
    let parts = differ_parts j js differ in
    elim (cases_Bool (same_key k j)) [
      | inl same ↦
          let one : k ≡ j = key_same k j same in
          let entry : Key → Totals → Key × Totals = λ (i : Key) (w : Totals). (i, w) in
          let rest = map_same (λ i. entry i (f i)) (λ i. entry i (g i)) js (
          λ i there.
          rw (others i (false_from_ne_true (same_key k i) (
          λ equal.
          let at : list_any (same_key j) js ≡ true =
          ap (λ x. list_any (same_key x) js) (sym one ∙ key_same k i equal) ∙ there in
          cc (at, parts.0)
          )))
          ) in
          rw (same, is, rest) (ap (λ w. entry j w ∷ map (λ i. entry i (g i)) js) (ap g one))
      | inr other ↦
          rw (other, others j other, insert_over f g k v js parts.1 others is)
          (sym (ap (map (λ i. (i, g i))) (cond_front (list_any (same_key k) js) j js k)))
    ]

-- the entry of a key in such a list
pub lookup_over : (f : Key → Totals) (k : Key) (ks : List Key)
    → lookup (same_key k) (map (λ j. (j, f j)) ks) ≡ (if list_any (same_key k) ks then Some (f k) else None)
lookup_over f k [] = refl
lookup_over f k (j ∷ js) =
    elim (cases_Bool (same_key k j)) [
      | inl same ↦ rw same (ap (λ x. Some (f x)) (sym (key_same k j same)))
      | inr other ↦ rw other (lookup_over f k js)
    ]
