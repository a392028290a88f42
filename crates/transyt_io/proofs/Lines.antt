-- Cutting bytes into lines.
use Rattle.std.proofs.Common.{◌≡◌, ℕ, zero, suc, ◌+◌, ◌-◌, ◌<◌, ◌≤◌, inl, inr, Bool, true, false, ◌==◌, if◌then◌else◌}
use Rattle.std.proofs.Common.{List, [], ◌∷◌, ◌++◌, map, length, take, drop, min, refl, sym, ◌∙◌, ap, arith}
use Rattle.std.proofs.Common.{append_assoc, length-append, length-drop, slice_index}
use Rattle.std.proofs.lemmas.List.{append-nil, take_all, take-append-drop, take-take, length-take-le, length-take, map-append}
use Rattle.std.proofs.Math.Seq.{drop-cons, take-append-add}
use Rattle.std.proofs.lemmas.Bool.{cases_lt, or_parts, or_from, false_from_ne_true}
use Rattle.std.specs.Str.Lines.{strip_carriage_return}
use Rattle.transyt_io.specs.Gather.{Gathers, FirstLine}
use Rattle.transyt_io.specs.Lines.{onto_first, cut, after_first_line, line_of, lines_by, whole, has_end}

-- the kept bytes of more are those kept of the kept ones
pub kept_more : {X : Type 0} → (n : ℕ) (xs ys : List X) → take n (take n xs ++ ys) ≡ take n (xs ++ ys)
kept_more zero xs ys = refl
kept_more (suc n) [] ys = refl
kept_more (suc n) (x ∷ xs) ys = ap (λ rest. x ∷ rest) (kept_more n xs ys)

-- of a long part the carriage return is past what stays
strip_long : (n : ℕ) (xs : List ℕ) → n + 1 ≤ length xs → take n (strip_carriage_return xs) ≡ take n xs
strip_long n xs h =
    let shorter : take n (take (length xs - 1) xs) ≡ take n xs = take-take n (length xs - 1) xs (omega arith) in
    let front = take (length xs - 1) xs in
    elim (slice_index xs (length xs - 1) == 13) as (λ v. take n (if v then front else xs) ≡ take n xs) [
      | true ↦ shorter
      | false ↦ refl
    ]

-- n + 1 bytes tell the first n of a part without its carriage return
line_of_first : (n : ℕ) (xs : List ℕ)
    → take n (strip_carriage_return (take (n + 1) xs)) ≡ take n (strip_carriage_return xs)
line_of_first n xs = elim (cases_lt (length xs) (n + 1)) [
  | inl h ↦ ap (λ (ys : List ℕ). take n (strip_carriage_return ys)) (take_all (n + 1) xs (omega arith))
  | inr h ↦
      let full : length (take (n + 1) xs) ≡ n + 1 = length-take-le (n + 1) xs h in
      strip_long n (take (n + 1) xs) (omega arith) ∙ take-take n (n + 1) xs (omega arith) ∙ sym (strip_long n xs h)
]

-- 4,098 bytes tell which line it is
pub line_of_kept : (raw : List ℕ) → line_of (take 4098 raw) ≡ line_of raw
line_of_kept raw = line_of_first 4097 raw

-- no line end in both, none in the whole
pub no_end_more : (xs ys : List ℕ) → has_end xs ≡ false → has_end ys ≡ false → has_end (xs ++ ys) ≡ false
no_end_more [] ys h k = k
no_end_more (b ∷ bs) ys h k =
    let parts = or_parts (b == 10) (has_end bs) h in
    or_from (b == 10) (has_end (bs ++ ys)) parts.0 (no_end_more bs ys parts.1 k)

-- the first bytes have no line end where none of them is one
pub no_end_before : (n : ℕ) (xs : List ℕ) → ((k : ℕ) → k < n → (slice_index xs k == 10) ≡ true → ⊥) → n ≤ length xs
    → has_end (take n xs) ≡ false
no_end_before zero xs h l = refl
no_end_before (suc n) [] h l = refl
no_end_before (suc n) (b ∷ bs) h l =
    or_from (b == 10) (has_end (take n bs)) (false_from_ne_true (b == 10) (h 0 (omega arith)))
    (no_end_before n bs (λ k below. h (suc k) (omega arith)) (omega arith))

-- bytes have no line end where none of them is one
pub no_end_in : (bytes : List ℕ) → ((k : ℕ) → k < length bytes → (slice_index bytes k == 10) ≡ true → ⊥)
    → has_end bytes ≡ false
no_end_in bytes h =
    sym (ap has_end (take_all (length bytes) bytes (omega arith))) ∙ no_end_before (length bytes) bytes h (omega arith)

-- bytes up to a line end are the first part
pub cut_line : (keep : Bool) (raw ys : List ℕ) → has_end raw ≡ false → cut keep (raw ++ 10 ∷ ys) ≡ raw ∷ cut keep ys
cut_line keep [] ys h = refl
cut_line keep (b ∷ bs) ys h =
    let parts = or_parts (b == 10) (has_end bs) h in
    let rest = cut_line keep bs ys parts.1 in
    rw parts.0 (ap (onto_first keep b) rest)

-- after bytes up to a line end
pub after_line : (raw ys : List ℕ) → has_end raw ≡ false → after_first_line (raw ++ 10 ∷ ys) ≡ ys
after_line [] ys h = refl
after_line (b ∷ bs) ys h =
    let parts = or_parts (b == 10) (has_end bs) h in
    let rest = after_line bs ys parts.1 in
    rw parts.0 rest

-- nothing comes after bytes with no line end
pub after_no_line_end : (bytes : List ℕ) → has_end bytes ≡ false → after_first_line bytes ≡ []
after_no_line_end [] h = refl
after_no_line_end (b ∷ bs) h =
    let parts = or_parts (b == 10) (has_end bs) h in
    let rest = after_no_line_end bs parts.1 in
    rw parts.0 rest

-- bytes with no line end have no whole part
pub no_whole : (raw : List ℕ) → has_end raw ≡ false → cut false raw ≡ []
no_whole [] h = refl
no_whole (b ∷ bs) h =
    let parts = or_parts (b == 10) (has_end bs) h in
    let rest = no_whole bs parts.1 in
    rw parts.0 (ap (onto_first false b) rest)

-- and are one part where such bytes are kept
pub open_line : (b : ℕ) (bs : List ℕ) → has_end (b ∷ bs) ≡ false → cut true (b ∷ bs) ≡ (b ∷ bs) ∷ []
open_line b [] h =
    let parts = or_parts (b == 10) false h in
    rw parts.0 refl
open_line b (c ∷ bs) h =
    let parts = or_parts (b == 10) (has_end (c ∷ bs)) h in
    let rest = open_line c bs parts.1 in
    rw parts.0 (ap (onto_first true b) rest)

-- bytes with no line end are one part
pub cut_open : (bytes : List ℕ) → 0 < length bytes → has_end bytes ≡ false → cut true bytes ≡ bytes ∷ []
cut_open [] some none = absurd (omega arith)
cut_open (b ∷ bs) some none = open_line b bs none

-- the last line
pub last_line : (raw line piece rest : List ℕ) (are_last : Bool) → Gathers line raw → 0 < length line → piece ≡ []
    → rest ≡ [] → are_last ≡ true → FirstLine (raw ++ piece) (line_of line) rest are_last
last_line raw line piece rest are_last gathers some nothing empty last =
    let all : raw ++ piece ≡ raw = ap (λ (xs : List ℕ). raw ++ xs) nothing ∙ append-nil raw in
    let positive : 0 < length raw = omega (arith, ap length gathers.first, length-take 4098 raw) in record {
      less = omega (arith, ap length empty, ap length all);
      cut_off = λ keep ys over.
          let parts = over last in
          rw (parts.0, parts.1, empty, append-nil (raw ++ piece), all)
          (ap (map line_of) (cut_open raw positive gathers.open_yet)
          ∙ ap (λ (l : List ℕ). l ∷ []) (sym (ap line_of gathers.first ∙ line_of_kept raw)));
    }

-- a shorter front
pub take_min : {X : Type 0} → (m n : ℕ) (xs : List X) → take (min m n) xs ≡ take n (take m xs)
take_min m n xs = elim (cases_lt m n) [
  | inl h ↦
      let at : min m n ≡ m = omega arith in
      ap (λ (k : ℕ). take k xs) at ∙ sym (take_all n (take m xs) (omega (arith, length-take m xs)))
  | inr h ↦ let at : min m n ≡ n = omega arith in ap (λ (k : ℕ). take k xs) at ∙ sym (take-take n m xs h)
]

-- a front of at most all
pub take_min_length : {X : Type 0} → (n : ℕ) (xs : List X) → take (min (length xs) n) xs ≡ take n xs
take_min_length n xs = take_min (length xs) n xs ∙ ap (λ ys. take n ys) (take_all (length xs) xs (omega arith))

-- brackets moved
regroup : (a b : List ℕ) (x : ℕ) (c d : List ℕ) → (a ++ (b ++ x ∷ c)) ++ d ≡ (a ++ b) ++ x ∷ (c ++ d)
regroup a b x c d = simp append_assoc

-- bytes whose first line end is at n
module _ (bytes : List ℕ) (n : ℕ) (below : n < length bytes)
    (before : (k : ℕ) → k < n → (slice_index bytes k == 10) ≡ true → ⊥) (here : slice_index bytes n ≡ 10) where
  none_before : has_end (take n bytes) ≡ false
  none_before = no_end_before n bytes before (omega arith)

  around : bytes ≡ take n bytes ++ 10 ∷ drop (n + 1) bytes
  around =
      let next : suc n ≡ n + 1 = omega arith in
      sym (take-append-drop n bytes)
      ∙ ap (λ (rest : List ℕ). take n bytes ++ rest) (drop-cons bytes n 0 below ∙ (λ j. here j ∷ drop (next j) bytes))

  -- the first part ends there
  pub cut_at : (keep : Bool) → cut keep bytes ≡ take n bytes ∷ cut keep (drop (n + 1) bytes)
  cut_at keep = ap (cut keep) around ∙ cut_line keep (take n bytes) (drop (n + 1) bytes) none_before

  -- the bytes after the first line end begin right after it
  pub after_line_end_at : after_first_line bytes ≡ drop (n + 1) bytes
  after_line_end_at = ap after_first_line around ∙ after_line (take n bytes) (drop (n + 1) bytes) none_before

  -- a line that was begun ends there
  pub first_line : (raw : List ℕ) → has_end raw ≡ false
      → FirstLine (raw ++ bytes) (line_of (raw ++ take n bytes)) (drop (n + 1) bytes) false
  first_line raw h = record {
    less = omega (arith, length-append raw bytes, length-drop (n + 1) bytes);
    cut_off = λ keep ys _.
        let rest = drop (n + 1) bytes ++ ys in
        ap (λ (xs : List ℕ). lines_by keep ((raw ++ xs) ++ ys)) around
        ∙ ap (lines_by keep) (regroup raw (take n bytes) 10 (drop (n + 1) bytes) ys)
        ∙ ap (map line_of) (cut_line keep (raw ++ take n bytes) rest (no_end_more raw (take n bytes) h none_before));
  }

-- the bytes that fit in the room that is left
pub take_onto : {X : Type 0} → (n : ℕ) (xs ys : List X) → length xs ≤ n
    → take n (xs ++ ys) ≡ xs ++ take (min (length ys) (n - length xs)) ys
take_onto n xs ys h =
    let all : n ≡ length xs + (n - length xs) = omega arith in
    ap (λ (k : ℕ). take k (xs ++ ys)) all ∙ take-append-add xs ys (n - length xs)
    ∙ ap (λ rest. xs ++ rest) (sym (take_min_length (n - length xs) ys))

-- bytes after some others leave their whole lines as they are
onto_more : (keep : Bool) (b : ℕ) (parts more all : List (List ℕ)) → all ≡ parts ++ more
    → (more : List (List ℕ)) × (onto_first keep b all ≡ onto_first false b parts ++ more)
onto_more keep b [] more all h = (onto_first keep b all, refl)
onto_more keep b (part ∷ parts) more all h = (more, ap (onto_first keep b) h)

-- the parts of more bytes begin with those that have their line end
pub cut_more : (keep : Bool) (xs ys : List ℕ)
    → (more : List (List ℕ)) × (cut keep (xs ++ ys) ≡ cut false xs ++ more)
cut_more keep [] ys = (cut keep ys, refl)
cut_more keep (b ∷ bs) ys =
    let rest = cut_more keep bs ys in
    let all = cut keep (bs ++ ys) in
    let ended = cut false bs in
    elim (b == 10) as (λ t. (more : List (List ℕ)) × ((if t then [] ∷ all else onto_first keep b all)
    ≡ (if t then [] ∷ ended else onto_first false b ended) ++ more)) [
      | true ↦ (rest.0, ap (λ (ls : List (List ℕ)). [] ∷ ls) rest.1)
      | false ↦ onto_more keep b (cut false bs) rest.0 (cut keep (bs ++ ys)) rest.1
    ]

-- the lines of more bytes begin with the whole lines
pub whole_then : (keep : Bool) (xs ys : List ℕ)
    → (more : List (List ℕ)) × (lines_by keep (xs ++ ys) ≡ whole xs ++ more)
whole_then keep xs ys =
    let parts = cut_more keep xs ys in
    (map line_of parts.0, ap (map line_of) parts.1 ∙ map-append line_of (cut false xs) parts.0)
