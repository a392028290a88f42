-- The texts of the items of a list, written one after another. A loop over places is one over `range_with_len 0 n`.
use Rattle.std.proofs.Common.{◌≡◌, ℕ, ◌+◌, ◌<◌, ◌≤◌, List, [], ◌∷◌, ◌++◌, length, take, drop, get_or, Option}
use Rattle.std.proofs.Common.{Result, Ok, Err}
use Rattle.std.proofs.Common.{sym, ap, ◌∙◌, arith}
use Rattle.std.proofs.lemmas.List.{append-nil, take_more, take_all, take-append-drop}
use Rattle.std.proofs.lemmas.List.FromFn.{length-range_with_len, get_or-range_with_len}
use Rattle.std.proofs.lemmas.Grind.{flat_map-append}
use Rattle.std.specs.Result.{IsErr}
use Rattle.std.specs.List.{flat_map, range_with_len}
use Rattle.transyt_io.proofs.Told.{adds_nothing, adds_both}
use Rattle.transyt_io.specs.Prints.{Prints, Printed}
use Rattle.transyt_io.proofs.PrintLaws.{prints_both, prints_front, prints_same, adds_same}

-- nothing is written yet
pub printed_nothing : (told : Option (List ℕ)) (quiet : ℕ) → Printed told told quiet quiet []
printed_nothing told quiet = record { adds = adds_nothing told; later = omega arith }

-- the text of one item more
text_more : {A : Type 0} (F : A → List ℕ) (xs : List A) (i : ℕ) (d x : A) → i < length xs → x ≡ get_or xs i d
    → flat_map F (take (i + 1) xs) ≡ flat_map F (take i xs) ++ F x
text_more F xs i d x inside is =
    ap (flat_map F) (take_more xs i d inside)
    ∙ flat_map-append F (take i xs) (get_or xs i d ∷ [])
    ∙ ap (λ (l : List ℕ). flat_map F (take i xs) ++ l) (append-nil (F (get_or xs i d)) ∙ ap F (sym is))

-- the text of all items, from one on
text_from : {A : Type 0} (F : A → List ℕ) (xs : List A) (i : ℕ) (d x : A) → i < length xs → x ≡ get_or xs i d
    → (flat_map F (take i xs) ++ F x) ++ flat_map F (drop (i + 1) xs) ≡ flat_map F xs
text_from F xs i d x inside is =
    ap (λ (l : List ℕ). l ++ flat_map F (drop (i + 1) xs)) (sym (text_more F xs i d x inside is))
    ∙ sym (flat_map-append F (take (i + 1) xs) (drop (i + 1) xs))
    ∙ ap (flat_map F) (take-append-drop (i + 1) xs)

-- a text that was written whole, as that of a call that went well
pub whole : {T E : Type 0} (v : T) {a b : Option (List ℕ)} {f g : ℕ} (text : List ℕ) → Printed a b f g text
    → Prints {T = T} {E = E} a b f g (Ok v) text
whole v text so_far = record {
  ok = so_far.adds;
  err = tt;
  cause = record { later = so_far.later; failed = tt };
}

-- one item more is written
pub item_printed : {T E : Type 0} {v : T} {A : Type 0} (F : A → List ℕ) (xs : List A) (i : ℕ) (d x : A)
    (a b c : Option (List ℕ)) {f g h : ℕ} → i < length xs → x ≡ get_or xs i d
    → Printed a b f g (flat_map F (take i xs)) → Prints {T = T} {E = E} b c g h (Ok v) (F x)
    → Printed a c f h (flat_map F (take (i + 1) xs))
item_printed F xs i d x a b c inside is before item = record {
  adds =
      adds_same a c _ _ (sym (text_more F xs i d x inside is))
      (adds_both a b c (flat_map F (take i xs)) (F x) before.adds item.ok);
  later = omega (arith, before.later, item.cause.later);
}

-- the text broke off in an item
pub item_broken : {T E : Type 0} {e : E} (r : Result T E) (v : T) {A : Type 0} (F : A → List ℕ) (xs : List A) (i : ℕ)
    (d x : A) (a b c : Option (List ℕ)) {f g h : ℕ} → IsErr r → i < length xs → x ≡ get_or xs i d
    → Printed a b f g (flat_map F (take i xs)) → Prints {T = T} {E = E} b c g h (Err e) (F x)
    → Prints {T = T} {E = E} a c f h r (flat_map F xs)
item_broken r v F xs i d x a b c failed inside is before item =
    prints_same a c r _ _
    (prints_front r (flat_map F (take i xs) ++ F x) (flat_map F (drop (i + 1) xs))
    failed (prints_both (Err _) (flat_map F (take i xs)) (F x) (whole v (flat_map F (take i xs)) before) item))
    (text_from F xs i d x inside is)

-- all items are written
pub items_printed : {T E : Type 0} (v : T) {A : Type 0} (F : A → List ℕ) (xs : List A) (i : ℕ)
    (a b : Option (List ℕ)) {f g : ℕ} → length xs ≤ i → Printed a b f g (flat_map F (take i xs))
    → Prints {T = T} {E = E} a b f g (Ok v) (flat_map F xs)
items_printed v F xs i a b past before = whole v (flat_map F xs) (record {
  adds = adds_same a b _ _ (ap (flat_map F) (take_all i xs past)) before.adds;
  later = before.later;
})

-- the same over places

-- one place more is written
pub place_printed : {T E : Type 0} {v : T} (F : ℕ → List ℕ) (n i : ℕ) (a b c : Option (List ℕ)) {f g h : ℕ}
    → i < n
    → Printed a b f g (flat_map F (take i (range_with_len 0 n))) → Prints {T = T} {E = E} b c g h (Ok v) (F i)
    → Printed a c f h (flat_map F (take (i + 1) (range_with_len 0 n)))
place_printed F n i a b c inside before item =
    item_printed F (range_with_len 0 n) i 0 i a b c (omega (arith, length-range_with_len 0 n))
    (omega (arith, get_or-range_with_len 0 n i 0 inside)) before item

-- the text broke off at a place
pub place_broken : {T E : Type 0} {e : E} (r : Result T E) (v : T) (F : ℕ → List ℕ) (n i : ℕ)
    (a b c : Option (List ℕ)) {f g h : ℕ} → IsErr r → i < n
    → Printed a b f g (flat_map F (take i (range_with_len 0 n))) → Prints {T = T} {E = E} b c g h (Err e) (F i)
    → Prints {T = T} {E = E} a c f h r (flat_map F (range_with_len 0 n))
place_broken r v F n i a b c failed inside before item =
    item_broken r v F (range_with_len 0 n) i 0 i a b c failed (omega (arith, length-range_with_len 0 n))
    (omega (arith, get_or-range_with_len 0 n i 0 inside)) before item

-- all places are written
pub places_printed : {T E : Type 0} (v : T) (F : ℕ → List ℕ) (n i : ℕ) (a b : Option (List ℕ)) {f g : ℕ} → n ≤ i
    → Printed a b f g (flat_map F (take i (range_with_len 0 n)))
    → Prints {T = T} {E = E} a b f g (Ok v) (flat_map F (range_with_len 0 n))
places_printed v F n i a b past before =
    items_printed v F (range_with_len 0 n) i a b (omega (arith, length-range_with_len 0 n)) before
