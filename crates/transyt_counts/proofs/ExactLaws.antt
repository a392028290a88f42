-- The edits of a table are exact: each row counts in one, each is allowed, together they set the counted flows.
use Rattle.std.proofs.Common.{◌≡◌, ℕ, Bool, true, false, cond, ◌||◌, List, [], ◌∷◌, ◌++◌, map, length, All, Option, Some, None}
use Rattle.std.proofs.Common.{refl, sym, ◌∙◌, ap, arith, inl, inr, get_or, Ok}
use Rattle.std.specs.List.{find, fold, list_any}
use Rattle.std.specs.Prelude.{count_by}
use Rattle.std.proofs.lemmas.Bool.{cases_Bool, cond_both, ltb-false}
use Rattle.std.proofs.lemmas.Simd.{map-map}
use Rattle.std.proofs.lemmas.List.{length-map, get_or-map}
use Rattle.std.proofs.lemmas.List.Sums.{sum_by-cons}
use Rattle.std.proofs.lemmas.List.Elements.{All-head, All-tail, All-nil, All-cons, All-push}
use Rattle.transyt_net.specs.Parts.{Network}
use Rattle.transyt_net.specs.Valid.{IsValid}
use Rattle.transyt_counts.specs.declared.key.Key.{Key}
use Rattle.transyt_counts.specs.declared.row.Count.{Count}
use Rattle.transyt_counts.specs.declared.tally.Totals.{Totals}
use Rattle.transyt_counts.specs.Rows.{same_key, edit_of, key_code, records_of}
use Rattle.transyt_counts.specs.Counts.{keys_of, with_key, totals_of, tally_of, flow_of, answer_for, answer_of}
use Rattle.transyt_counts.specs.Counts.{read_rows, counts_of, CountsValue}
use Rattle.transyt_counts.specs.Exact.{sets, AreExact}
use Rattle.transyt_counts.proofs.EntryLaws.{is_too_great, edit_by}
use Rattle.transyt_counts.proofs.RowLaws.{IsGood}
use Rattle.transyt_counts.proofs.KeyLaws.{keys_differ, key_same, differ_parts, keys_of_differ, any_itself}
use Rattle.transyt_counts.proofs.TallyLaws.{keys_stay}
use Rattle.transyt_counts.proofs.FlowLaws.{edits_set}

-- an edit of a key sets that key
sets_by : (j : Key) (link : ℕ) (o : Option ℕ) (flow : ℕ)
    → sets j (edit_of (record { link = link; feeder = o }) flow) ≡ same_key j (record { link = link; feeder = o })
sets_by j link o flow = grind arith

-- one where it holds
abbrev tick : Bool → ℕ
tick b = cond b 1 0

-- of keys that differ one is that of a row
none_more : (j : Key) (ks : List Key) (flow : Key → ℕ) → list_any (same_key j) ks ≡ false
    → count_by (sets j) (map (λ k. edit_of k (flow k)) ks) ≡ 0
none_more j [] flow none = refl
none_more j (k ∷ ks) flow none =
    let more = sum_by-cons (λ e. cond (sets j e) 1 0) (edit_of k (flow k)) (map (λ k. edit_of k (flow k)) ks) in
    grind (arith, more, sets_by j k.link k.feeder (flow k), none_more j ks flow)

-- of edits of keys that differ just one sets a key that is among them
pub one_of : (j : Key) (ks : List Key) (flow : Key → ℕ) → keys_differ ks ≡ true → list_any (same_key j) ks ≡ true
    → count_by (sets j) (map (λ k. edit_of k (flow k)) ks) ≡ 1
one_of j [] flow differ there = absurd (cc)
one_of j (k ∷ ks) flow differ there =
    let parts = differ_parts k ks differ in
    let more = sum_by-cons (λ e. cond (sets j e) 1 0) (edit_of k (flow k)) (map (λ k. edit_of k (flow k)) ks) in
    elim (cases_Bool (same_key j k)) [
      | inl same ↦
          let here : tick (sets j (edit_of k (flow k))) ≡ 1 = ap tick (sets_by j k.link k.feeder (flow k) ∙ same) in
          let gone : list_any (same_key j) ks ≡ false = ap (λ x. list_any (same_key x) ks) (key_same j k same) ∙ parts.0 in
          omega (arith, more, here, none_more j ks flow gone)
      | inr other ↦
          let here : tick (sets j (edit_of k (flow k))) ≡ 0 = ap tick (sets_by j k.link k.feeder (flow k) ∙ other) in
          let rest : list_any (same_key j) ks ≡ true = sym (ap (λ b. b || list_any (same_key j) ks) other) ∙ there in
          omega (arith, more, here, one_of j ks flow parts.1 rest)
    ]

-- the key of a row is there
row_there : (cs : List Count) (ks : List Key) → All (λ c. list_any (same_key c.key) (fold (λ keys c. with_key keys c.key) ks cs) ≡ true) cs
row_there [] ks = All-nil (λ c. list_any (same_key c.key) ks ≡ true)
row_there (c ∷ cs) ks =
    All-cons (λ (x : Count). list_any (same_key x.key) (fold (λ keys c. with_key keys c.key) (with_key ks c.key) cs) ≡ true) c cs
    (keys_stay cs (with_key ks c.key) c.key (any_itself ks c.key)) (row_there cs (with_key ks c.key))

-- each key is that of a good row, and so has no code
keys_good : (net : Network) (cs : List Count) (ks : List Key) → All (IsGood net) cs → All (λ k. key_code net k ≡ None) ks
    → All (λ k. key_code net k ≡ None) (fold (λ keys c. with_key keys c.key) ks cs)
keys_good net [] ks good before = before
keys_good net (c ∷ cs) ks good before =
    keys_good net cs (with_key ks c.key) (All-tail (IsGood net) c cs good)
    (cond_both (list_any (same_key c.key) ks) ks (ks ++ c.key ∷ []) (λ ks. All (λ k. key_code net k ≡ None) ks) (λ there. before)
    (λ new. All-push (λ k. key_code net k ≡ None) ks c.key before (All-head (IsGood net) c cs good).key))

-- where none was found, all fail
none_found : {A : Type 0} (test : A → Bool) (xs : List A) → find test xs ≡ None → All (λ x. test x ≡ false) xs
none_found test [] none = All-nil (λ x. test x ≡ false)
none_found test (x ∷ xs) none =
    elim (cases_Bool (test x)) [
      | inl passes ↦ absurd (let some = rw passes at none in cc some)
      | inr fails ↦ All-cons (λ x. test x ≡ false) x xs fails (none_found test xs (rw fails at none))
    ]

-- the edits of good rows, of which no key's flow is too great
edits_exact : (net : Network) (cs : List Count) → IsValid net → All (IsGood net) cs
    → find is_too_great (tally_of cs) ≡ None → AreExact net cs (map edit_by (tally_of cs))
edits_exact net cs valid good none =
    let flow : Key → ℕ = flow_of cs in
    let entry : Key → Key × Totals = λ k. (k, totals_of cs k) in
    let small = none_found is_too_great (tally_of cs) none in
    let known = keys_good net cs [] good (All-nil (λ k. key_code net k ≡ None)) in
    let both = edits_set (keys_of cs) flow net valid (
    λ i d below. (
      known i d below,
      ltb-false 9999 (flow (get_or (keys_of cs) i d))
          (rw (get_or-map entry (keys_of cs) i d (entry d) below) at (small i (entry d) (omega (arith, length-map (keys_of cs) entry)))),
    )) in
    rw (map-map edit_by entry (keys_of cs)) (record {
      once = λ i d below.
          one_of (get_or cs i d).key (keys_of cs) flow (keys_of_differ cs) (row_there cs [] i d below);
      allowed = both.0;
      after = both.1;
    })

-- an answer to rows has their number and edits, and no flow is too great
answer_parts : (rows : ℕ) (tally : List (Key × Totals)) (o : Option (Key × Totals)) (v : CountsValue) → answer_for rows tally o ≡ Ok v
    → (o ≡ None) × (rows ≡ v.rows) × (map edit_by tally ≡ v.edits)
answer_parts rows tally (Some k) v h = absurd (cc)
answer_parts rows tally None v h =
    let is : record { rows = rows; edits = map edit_by tally } ≡ v = cc in
    (refl, ap (λ (x : CountsValue). x.rows) is, ap (λ (x : CountsValue). x.edits) is)

-- so an answer to a table is exact
pub table_exact : (net : Network) (table : List ℕ) (cs : List Count) (v : CountsValue) → IsValid net
    → read_rows net 1 (records_of table) ≡ Ok cs → All (IsGood net) cs → counts_of net table ≡ Ok v
    → (counts : List Count) × (read_rows net 1 (records_of table) ≡ Ok counts) × (length counts ≡ v.rows) × AreExact net counts v.edits
table_exact net table cs v valid read good answer =
    let parts = answer_parts (length cs) (tally_of cs) (find is_too_great (tally_of cs)) v (sym (ap answer_of read) ∙ answer) in
    (cs, read, parts.1, rw (← parts.2) (edits_exact net cs valid good parts.0))
