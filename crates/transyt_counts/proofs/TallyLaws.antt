-- One row more in the tally.
use Rattle.std.proofs.Common.{◌≡◌, ℕ, ◌+◌, ◌*◌, ◌<◌, ◌≤◌, Bool, true, false, List, [], ◌∷◌, ◌++◌, map, All, Some, None, refl, sym, ◌∙◌, ap}
use Rattle.std.proofs.Common.{arith, inl, inr, IfSome, Option}
use Rattle.std.specs.List.{list_any, fold, filter}
use Rattle.std.specs.Map.{lookup}
use Rattle.std.proofs.lemmas.Bool.{cases_Bool}
use Rattle.std.proofs.lemmas.List.Sums.{fold_push, sum_by_push}
use Rattle.std.proofs.lemmas.List.Elements.{All-nil, All-cons, All-head, All-tail, All-weaker, filter-append}
use Rattle.std.proofs.lemmas.List.{append-nil}
use Rattle.std.proofs.lemmas.Map.Entries.{All-lookup}
use Rattle.indexmap.specs.IndexMap.{insert_entry}
use Rattle.transyt_counts.specs.declared.key.Key.{Key}
use Rattle.transyt_counts.specs.declared.row.Count.{Count}
use Rattle.transyt_counts.specs.declared.tally.Totals.{Totals}
use Rattle.transyt_counts.specs.Rows.{same_key}
use Rattle.transyt_counts.specs.Counts.{keys_of, with_key, with_count, more_totals, totals_in, totals_of, tally_of}
use Rattle.transyt_net.specs.Parts.{Network}
use Rattle.transyt_counts.proofs.RowLaws.{IsGood}
use Rattle.transyt_counts.proofs.KeyLaws.{key_same, key_self, key_swapped, keys_of_differ, insert_over, lookup_over, any_with, any_itself}

-- the rows of a key
abbrev rows_of : List Count → Key → List Count
rows_of counts k = filter (λ c. same_key k c.key) counts

-- and with one of that key more
rows_more : (cs : List Count) (c : Count) (k : Key) → same_key k c.key ≡ true → rows_of (cs ++ c ∷ []) k ≡ rows_of cs k ++ c ∷ []
rows_more cs c k same = rw (filter-append (λ c. same_key k c.key) cs (c ∷ []), same)

-- and with one of another
rows_other : (cs : List Count) (c : Count) (k : Key) → same_key k c.key ≡ false → rows_of (cs ++ c ∷ []) k ≡ rows_of cs k
rows_other cs c k other = rw (filter-append (λ c. same_key k c.key) cs (c ∷ []), other, append-nil (rows_of cs k))

-- the totals of a row more
totals_push : (rows : List Count) (c : Count) → totals_in (rows ++ c ∷ []) ≡ more_totals c (Some (totals_in rows))
totals_push rows c =
    rw (
      sum_by_push (λ (c : Count). c.vehicles) rows c,
      sum_by_push (λ (c : Count). c.minutes) rows c,
      fold_push (λ (last : ℕ) (c : Count). c.row) 0 rows c,
    )

-- a key that is there stays there
pub keys_stay : (cs : List Count) (ks : List Key) (k : Key) → list_any (same_key k) ks ≡ true
    → list_any (same_key k) (fold (λ keys c. with_key keys c.key) ks cs) ≡ true
keys_stay [] ks k there = there
keys_stay (c ∷ cs) ks k there = keys_stay cs (with_key ks c.key) k (any_with ks c.key k there)

none_there : (cs : List Count) (ks : List Key) (k : Key)
    → list_any (same_key k) (fold (λ keys c. with_key keys c.key) ks cs) ≡ false → filter (λ c. same_key k c.key) cs ≡ []
none_there [] ks k none = refl
none_there (c ∷ cs) ks k none =
    elim (cases_Bool (same_key k c.key)) [
      | inl same ↦ absurd (
          let at : list_any (same_key k) (with_key ks c.key) ≡ true =
          ap (λ x. list_any (same_key k) (with_key ks x)) (sym (key_same k c.key same)) ∙ any_itself ks k in
          let stays = keys_stay cs (with_key ks c.key) k at in
          cc (stays, none)
          )
      | inr other ↦ rw other (none_there cs (with_key ks c.key) k none)
    ]

first_totals : (c : Count) → more_totals c None ≡ more_totals c (Some (record { vehicles = 0; minutes = 0; last = 0 }))
first_totals c = grind arith

-- the totals of the key of a row more
totals_new : (cs : List Count) (c : Count)
    → more_totals c (lookup (same_key c.key) (tally_of cs)) ≡ totals_of (cs ++ c ∷ []) c.key
totals_new cs c =
    let k : Key = c.key in
    let now : totals_of (cs ++ c ∷ []) k ≡ more_totals c (Some (totals_of cs k)) =
    ap totals_in (rows_more cs c k (key_self k)) ∙ totals_push (rows_of cs k) c in
    elim (cases_Bool (list_any (same_key k) (keys_of cs))) [
      | inl there ↦ rw (lookup_over (totals_of cs) k (keys_of cs), there) (sym now)
      | inr new ↦
          rw (lookup_over (totals_of cs) k (keys_of cs), new)
          (first_totals c ∙ ap (λ rows. more_totals c (Some (totals_in rows))) (sym (none_there cs [] k new)) ∙ sym now)
    ]

-- the tally with a row more
pub tally_push : (cs : List Count) (c : Count) → with_count (tally_of cs) c ≡ tally_of (cs ++ c ∷ [])
tally_push cs c =
    insert_over (totals_of cs) (totals_of (cs ++ c ∷ [])) c.key _ (keys_of cs) (keys_of_differ cs)
    (λ j other. sym (ap totals_in (rows_other cs c j (key_swapped c.key j other))))
    (totals_new cs c)
    ∙ sym (ap (map (λ k. (k, totals_of (cs ++ c ∷ []) k))) (fold_push (λ keys c. with_key keys c.key) [] cs c))

-- a fact of each entry and of the new totals is one of all entries after the write
insert_has : (P : Totals → Type 0) (es : List (Key × Totals)) (k : Key) (v : Totals) → All (λ e. P e.1) es → P v
    → All (λ e. P e.1) (insert_entry same_key es k v)
insert_has P [] k v all here = All-cons (λ (e : Key × Totals). P e.1) (k, v) [] here (All-nil (λ (e : Key × Totals). P e.1))
insert_has P (e ∷ es) k v all here =
    let Q : Key × Totals → Type 0 = λ e. P e.1 in
    let rest = All-tail Q e es all in
    elim (cases_Bool (same_key k e.0)) [
      | inl same ↦ rw same (All-cons Q (e.0, v) es here rest)
      | inr other ↦ rw other
          (All-cons Q e (insert_entry same_key es k v) (All-head Q e es all) (insert_has P es k v rest here))
    ]

-- and what is looked up among them has it
pub lookup_has : (P : Totals → Type 0) (test : Key → Bool) (es : List (Key × Totals)) → All (λ e. P e.1) es
    → IfSome (lookup test es) P
lookup_has = All-lookup

-- totals of a row or more, and of no more than so many
pub record AreFew (n : ℕ) (t : Totals) : Type 0 where
  pub vehicles : t.vehicles ≤ 999999 * n
  pub minutes : (0 < t.minutes) × (t.minutes ≤ 1440 * n)

-- totals of a row more
totals_few : (net : Network) (n : ℕ) (c : Count) (o : Option Totals) → IsGood net c → IfSome o (AreFew n)
    → AreFew (n + 1) (more_totals c o)
totals_few net n c o good before = grind (arith, good, before)

-- the entries with a row more
pub entries_few : (net : Network) (n : ℕ) (c : Count) (es : List (Key × Totals)) → IsGood net c → All (λ e. AreFew n e.1) es
    → All (λ e. AreFew (n + 1) e.1) (with_count es c)
entries_few net n c es good few =
    insert_has (AreFew (n + 1)) es c.key (more_totals c (lookup (same_key c.key) es))
    (All-weaker (λ (e : Key × Totals). AreFew n e.1) (λ (e : Key × Totals). AreFew (n + 1) e.1)
    (λ e is. record { vehicles = omega (arith, is.vehicles); minutes = (is.minutes.0, omega (arith, is.minutes.1)) }) es few)
    (totals_few net n c (lookup (same_key c.key) es) good (lookup_has (AreFew n) (same_key c.key) es few))
