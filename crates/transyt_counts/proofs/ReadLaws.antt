-- One row more of those that were read.
use Rattle.std.proofs.Common.{◌≡◌, ℕ, suc, ◌+◌, List, [], ◌∷◌, ◌++◌, length, All, Result, Ok, Err, refl, sym, ap, arith}
use Rattle.std.proofs.lemmas.List.Elements.{All-nil, All-cons, All-same}
use Rattle.transyt_syntax.specs.declared.code.Code.{Code}
use Rattle.transyt_net.specs.Parts.{Network}
use Rattle.transyt_counts.specs.declared.row.Count.{Count}
use Rattle.transyt_counts.specs.declared.counts.CountStop.{CountStop}
use Rattle.transyt_counts.specs.declared.counts.CountStop.TheVariants as stop
use Rattle.transyt_counts.specs.Rows.{read_row}
use Rattle.transyt_counts.specs.Counts.{with_row, read_rows}
use Rattle.transyt_counts.proofs.RowLaws.{IsGood, good_row}

-- rows without a code: the first has none, nor have the others
with_ok : (row : ℕ) (one : Result Count Code) (rest : Result (List Count) CountStop) (cs : List Count) → with_row row one rest ≡ Ok cs
    → (c : Count) × (ds : List Count) × (one ≡ Ok c) × (rest ≡ Ok ds) × (cs ≡ c ∷ ds)
with_ok row (Err code) rest cs h = absurd (cc)
with_ok row (Ok c) (Err other) cs h = absurd (cc)
with_ok row (Ok c) (Ok ds) cs h = (c, ds, refl, refl, cc)

-- a row more that has no code
pub push_ok : (net : Network) (n : ℕ) (done : List (List (List ℕ))) (cs : List Count) (r : List (List ℕ)) (c : Count)
    → read_rows net n done ≡ Ok cs → read_row net (n + length done) r ≡ Ok c
    → read_rows net n (done ++ r ∷ []) ≡ Ok (cs ++ c ∷ [])
push_ok net n [] cs r c before here =
    let same : n + 0 ≡ n = omega arith in
    let none : cs ≡ [] = cc in
    rw (rw same at here, none)
push_ok net n (d ∷ ds) cs r c before here =
    let (e, es, first, rest, is) = with_ok n (read_row net n d) (read_rows net (n + 1) ds) cs before in
    let next : n + suc (length ds) ≡ n + 1 + length ds = omega arith in
    rw (first, push_ok net (n + 1) ds es r c rest (rw next at here)) (ap (λ xs. Ok (xs ++ c ∷ [])) (sym is))

-- a row more that has one
pub push_err : (net : Network) (n : ℕ) (done : List (List (List ℕ))) (cs : List Count) (r : List (List ℕ)) (code : Code)
    (rest : List (List (List ℕ)))
    → read_rows net n done ≡ Ok cs → read_row net (n + length done) r ≡ Err code
    → read_rows net n (done ++ r ∷ rest) ≡ Err (stop.Refused (n + length done) code)
push_err net n [] cs r code rest before here =
    let same : n + 0 ≡ n = omega arith in
    rw (rw same at here, same)
push_err net n (d ∷ ds) cs r code rest before here =
    let (e, es, first, later, is) = with_ok n (read_row net n d) (read_rows net (n + 1) ds) cs before in
    let next : n + suc (length ds) ≡ n + 1 + length ds = omega arith in
    rw (first, push_err net (n + 1) ds es r code rest later (rw next at here), next)

-- each row without a code is good, and counts as one
pub rows_good : (net : Network) (n : ℕ) (rows : List (List (List ℕ))) (cs : List Count) → read_rows net n rows ≡ Ok cs
    → All (IsGood net) cs × (length cs ≡ length rows)
rows_good net n [] cs h =
    let none : cs ≡ [] = cc in
    (All-same (IsGood net) cs [] none (All-nil (IsGood net)), ap length none)
rows_good net n (r ∷ rs) cs h =
    let (c, ds, first, rest, is) = with_ok n (read_row net n r) (read_rows net (n + 1) rs) cs h in
    let others = rows_good net (n + 1) rs ds rest in (
      All-same (IsGood net) cs (c ∷ ds) is (All-cons (IsGood net) c ds (good_row net n r c first) others.0),
      omega (arith, ap length is, others.1),
    )
