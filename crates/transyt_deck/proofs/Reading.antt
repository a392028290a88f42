-- The text of cards, read card by card.
use Rattle.std.proofs.Common.{◌≡◌, ℕ, zero, suc, ◌+◌, ◌-◌, ◌≤◌, ◌==◌, List, [], ◌∷◌, ◌++◌, map, length, take, Bool}
use Rattle.std.proofs.Common.{true, false, cond, Ok, refl, sym, subst, ◌∙◌, ap, arith, append_assoc, slice_index, All}
use Rattle.std.specs.List.{flat_map, fold, list_all}
use Rattle.std.proofs.lemmas.List.{append-nil, take_all}
use Rattle.std.proofs.lemmas.List.Concat.{flat_map_single}
use Rattle.std.proofs.lemmas.List.Elements.{All-head, All-tail}
use Rattle.std.proofs.lemmas.Grind.{flat_map-append}
use Rattle.std.proofs.lemmas.Bool.Decides.{nat_tests}
use Rattle.std.proofs.lemmas.Bool.{and_parts, or_from}
use Rattle.std.proofs.Common.{length-append}
use Rattle.transyt_io.specs.Lines.{has_end, line_of, lines}
use Rattle.transyt_io.proofs.Lines.{cut_line}
use Rattle.transyt_syntax.specs.Syntax.{is_plain}
use Rattle.transyt_deck.specs.declared.card.Card.{Card}
use Rattle.transyt_deck.specs.declared.state.Part.{Part}
use Rattle.transyt_deck.specs.declared.state.State.{State}
use Rattle.transyt_deck.specs.Cards.{card_line, card_text, cards_text}
use Rattle.transyt_deck.specs.State.{form_of, state_by, state_with, up_to}
use Rattle.transyt_deck.specs.Deck.{Deck, Open, deck_at, deck_by, next}
use Rattle.transyt_deck.proofs.CardTexts.{Fits, card_plain, card_short, said_card}

plain_no_feed : (b : ℕ) → is_plain b ≡ true → (b == 10) ≡ false
plain_no_feed b h = grind (arith, nat_tests)

plain_no_return : (b : ℕ) → is_plain b ≡ true → (b == 13) ≡ false
plain_no_return b h = grind (arith, nat_tests)

no_line_end : (bs : List ℕ) → list_all is_plain bs ≡ true → has_end bs ≡ false
no_line_end [] h = refl
no_line_end (b ∷ bs) h =
    let both = and_parts (is_plain b) (list_all is_plain bs) h in
    or_from (b == 10) (has_end bs) (plain_no_feed b both.0) (no_line_end bs both.1)

-- a plain byte at each place, 0 past the end
plain_at : (bs : List ℕ) (i : ℕ) → list_all is_plain bs ≡ true → (slice_index bs i == 13) ≡ false
plain_at [] i h = refl
plain_at (b ∷ bs) zero h = plain_no_return b ((and_parts (is_plain b) (list_all is_plain bs) h).0)
plain_at (b ∷ bs) (suc i) h = plain_at bs i ((and_parts (is_plain b) (list_all is_plain bs) h).1)

not_stripped : (t : Bool) (a b : List ℕ) → t ≡ false → cond t a b ≡ b
not_stripped true a b h = absurd (cc)
not_stripped false a b h = refl

line_same : (bs : List ℕ) → list_all is_plain bs ≡ true → length bs ≤ 4096 → line_of bs ≡ bs
line_same bs h short =
    ap (take 4097) (not_stripped (slice_index bs (length bs - 1) == 13) (take (length bs - 1) bs) bs
    (plain_at bs (length bs - 1) h))
    ∙ take_all 4097 bs (omega arith)

-- the first line of a text is its first card
first_line : (form : ℕ) (card : Card) (more rest : List ℕ) → Fits form card
    → lines ((card_line card ++ more) ++ rest) ≡ card_text card ∷ lines (more ++ rest)
first_line form card more rest fits =
    let text = card_text card in
    let whole : ((text ++ 10 ∷ []) ++ more) ++ rest ≡ text ++ 10 ∷ (more ++ rest) = simp append_assoc in
    let plain = card_plain card fits.small in
    ap lines whole
    ∙ ap (map line_of) (cut_line true text (more ++ rest) (no_line_end text plain))
    ∙ ap (λ (l : List ℕ). l ∷ lines (more ++ rest)) (line_same text plain (card_short card fits.small fits.few))

-- the text of cards, read from a state on, comes to a state, whatever follows
pub record Reads (s : State) (cards : List Card) (t : State) : Type 0 where
  pub is : (n : ℕ) (rest : List ℕ)
      → fold next (Open n s) (lines (cards_text cards ++ rest)) ≡ fold next (Open (n + length cards) t) (lines rest)

-- no card
pub reads_none : (s : State) → Reads s [] s
reads_none s = record { is = λ n rest. ap (λ (k : ℕ). fold next (Open k s) (lines rest)) (omega arith) }

-- the deck after the line of a card
pub next_card : (n : ℕ) (s : State) (card : Card) → Fits (form_of s) card
    → next (Open n s) (card_text card) ≡ deck_by (n + 1) (state_with s card)
next_card n s card fits = ap (λ said. deck_by (n + 1) (state_by s said)) (said_card (form_of s) card fits)

-- one card that is accepted, and those after it
pub reads_more : {s t u : State} {card : Card} {cards : List Card} → Fits (form_of s) card → state_with s card ≡ Ok t
    → ((n : ℕ) → deck_at n t ≡ Open n t) → Reads t cards u → Reads s (card ∷ cards) u
reads_more {s} {t} {u} {card} {cards} fits accepted still more = record {
  is = λ n rest.
      let later = lines (cards_text cards ++ rest) in
      let one : next (Open n s) (card_text card) ≡ Open (n + 1) t = next_card n s card fits
      ∙ ap (deck_by (n + 1)) accepted ∙ still (n + 1) in
      let count : (n + 1) + length cards ≡ n + length (card ∷ cards) = omega arith in
      ap (fold next (Open n s)) (first_line (form_of s) card (cards_text cards) rest fits)
      ∙ ap (λ (d : Deck). fold next d later) one ∙ more.is (n + 1) rest
      ∙ ap (λ (k : ℕ). fold next (Open k u) (lines rest)) count;
}

-- cards and those after them
pub reads_both : {s t u : State} {xs ys : List Card} → Reads s xs t → Reads t ys u → Reads s (xs ++ ys) u
reads_both {s} {t} {u} {xs} {ys} a b = record {
  is = λ n rest.
      let text : cards_text (xs ++ ys) ++ rest ≡ cards_text xs ++ (cards_text ys ++ rest) =
      ap (λ (l : List ℕ). l ++ rest) (flat_map-append card_line xs ys)
      ∙ append_assoc (cards_text xs) (cards_text ys) rest in
      let count : (n + length xs) + length ys ≡ n + length (xs ++ ys) = omega (arith, length-append xs ys) in
      ap (λ (l : List ℕ). fold next (Open n s) (lines l)) text ∙ a.is n (cards_text ys ++ rest)
      ∙ b.is (n + length xs) rest ∙ ap (λ (k : ℕ). fold next (Open k u) (lines rest)) count;
}

-- a part that is not past this one
abbrev pub Upto : Part → Type 0
Upto last = (part : Part) × (up_to last part ≡ true)

-- the cards of items in order, by those of one item after the items before it
pub reads_each : {A P : Type 0} (all : List A) (Is : A → Type 0) (cards : A → List Card) (at : P → List A → List A → State)
    → ((part : P) (done more : List A) (x : A) → done ++ x ∷ more ≡ all → Is x
    → (next : P) × Reads (at part done (x ∷ more)) (cards x) (at next (done ++ x ∷ []) more))
    → (part : P) (done more : List A) → done ++ more ≡ all → All Is more
    → (last : P) × Reads (at part done more) (flat_map cards more) (at last all [])
reads_each {A} all Is cards at one part done [] whole fine = (
  part,
  subst (λ (xs : List A). Reads (at part done []) [] (at part xs [])) (sym (append-nil done) ∙ whole) (reads_none _),
)
reads_each all Is cards at one part done (x ∷ more) whole fine =
    let here = one part done more x whole (All-head Is x more fine) in
    let rest = reads_each all Is cards at one here.0 (done ++ x ∷ []) more (append_assoc done (x ∷ []) more ∙ whole)
    (All-tail Is x more fine) in (rest.0, reads_both here.1 rest.1)

-- the same of items with one card each
pub reads_map : {A P : Type 0} (all : List A) (Is : A → Type 0) (card : A → Card) (at : P → List A → List A → State)
    → ((part : P) (done more : List A) (x : A) → done ++ x ∷ more ≡ all → Is x
    → (next : P) × Reads (at part done (x ∷ more)) (card x ∷ []) (at next (done ++ x ∷ []) more))
    → (part : P) → All Is all → (last : P) × Reads (at part [] all) (map card all) (at last all [])
reads_map all Is card at one part fine =
    rw (← flat_map_single card all) (reads_each all Is (λ x. card x ∷ []) at one part [] all refl fine)
