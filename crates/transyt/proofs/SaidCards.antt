-- A card that a line says has as many numbers as its keyword takes.
use Rattle.std.proofs.Common.{◌≡◌, ℕ, suc, ◌+◌, ◌≤◌, ◌==◌, Bool, true, false, not, nat_le, ◌&&◌, List, [], ◌∷◌, length, drop}
use Rattle.std.proofs.Common.{Option, Some, None, Result, Ok, Err, if◌then◌else◌, refl, sym, ◌∙◌, ap, subst, arith, length-drop}
use Rattle.std.specs.Prelude.{option_and_then, nat_lt}
use Rattle.std.specs.Option.{option_map}
use Rattle.std.specs.List.{list_all}
use Rattle.std.specs.Str.{bytes_eq}
use Rattle.std.proofs.lemmas.Bool.{and_parts, leb-true}
use Rattle.transyt_num.specs.Number.{number_of}
use Rattle.transyt_io.specs.Lines.{words, is_skipped}
use Rattle.transyt_syntax.specs.Syntax.{when, first_found}
use Rattle.transyt_syntax.specs.declared.code.Code.{Code}
use Rattle.transyt_syntax.specs.declared.code.Code.TheVariants as code
use Rattle.transyt_syntax.specs.Syntax.{Entry, named, is_count, all_numbers, syntax_code, said, unless, first_word}
use Rattle.transyt_syntax.specs.Syntax.{further_words, numbers_of, entry_of, is_plain}
use Rattle.transyt_deck.specs.declared.card.Card.{Card}
use Rattle.transyt_deck.specs.Cards.{cards}
use Rattle.transyt_deck.specs.Adds.{CanAdd}

-- an entry of cards that can be added
abbrev CanEntry : Entry Card → Type 0
CanEntry entry = (ns : List ℕ) → is_count entry.counts (length ns) ≡ true → CanAdd (entry.says ns)

-- entries of cards that can be added
abbrev EachCan : List (Entry Card) → Type 0
EachCan [] = Unit {0}
EachCan (entry ∷ more) = CanEntry entry × EachCan more

-- lists that have so many numbers behind the first
few_behind : (front least most : ℕ) (ns : List ℕ) → is_count (front + least, front + most) (length ns) ≡ true
    → (least ≤ length (drop front ns)) × (length (drop front ns) ≤ most)
few_behind front least most ns h =
    let both = and_parts (nat_le (front + least) (length ns)) (nat_le (length ns) (front + most)) h in
    let low = leb-true (front + least) (length ns) both.0 in
    let high = leb-true (length ns) (front + most) both.1 in
    let behind = length-drop front ns in
    (omega (arith, low, behind), omega (arith, high, behind))

by_form : (b : Bool) (x y : Entry Card) → CanEntry x → CanEntry y → CanEntry (if b then x else y)
by_form true x y h k = h
by_form false x y h k = k

-- each card of the table
cards_can : (form : ℕ) → EachCan (cards form)
cards_can form = (
  λ ns h. tt,
  (
    λ ns h. tt,
    (
      λ ns h. tt,
      (
        λ ns h. tt,
        (
          by_form (form == 2) _ _ (λ ns h. few_behind 8 1 8 ns h) (λ ns h. few_behind 6 1 8 ns h),
          (λ ns h. tt, (λ ns h. tt, (λ ns h. few_behind 1 1 16 ns h, (λ ns h. tt, tt)))),
        ),
      ),
    ),
  ),
)

-- the entry of a keyword
named_can : (table : List (Entry Card)) (word : List ℕ) (found : Entry Card) → EachCan table
    → named table word ≡ Some found → CanEntry found
named_can [] word found each h = absurd (cc)
named_can (entry ∷ more) word found each h =
    let by : (b : Bool) → (if b then Some entry else named more word) ≡ Some found → CanEntry found = elim [
      | true ↦ λ is. let same : entry ≡ found = cc in subst CanEntry same each.0
      | false ↦ λ is. named_can more word found each.1 is
    ] in
    by (bytes_eq word entry.word) h

-- as many numbers as words
numbers_len : (words : List (List ℕ)) (ns : List ℕ) → all_numbers words ≡ Some ns → length ns ≡ length words
numbers_len [] ns h = let none : [] ≡ ns = cc in ap length (sym none)
numbers_len (word ∷ more) ns h =
    let rest : (n : ℕ) (o : Option (List ℕ)) → all_numbers more ≡ o → option_map (λ ms. n ∷ ms) o ≡ Some ns
    → length ns ≡ suc (length more) = λ n. elim [
      | None ↦ λ is says. absurd (cc)
      | Some ms ↦ λ is says.
          let same : n ∷ ms ≡ ns = cc in
          let len = numbers_len more ms is in
          let longer = ap length same in
          omega (arith, len, longer)
    ] in
    let by : (o : Option ℕ) → option_and_then (λ n. option_map (λ ms. n ∷ ms) (all_numbers more)) o ≡ Some ns
    → length ns ≡ suc (length more) = elim [
      | None ↦ λ says. absurd (cc)
      | Some n ↦ λ says. rest n (all_numbers more) refl says
    ] in
    by (number_of word) h

-- a line with no code has as many words as its keyword takes
count_of : (a b : Bool) (n : ℕ) (counts : ℕ × ℕ) (late : Option Code) (c : Bool) → is_count counts n ≡ c
    → first_found (when a code.LongLine ∷ when b code.OddByte ∷ when (not c) code.WrongCount ∷ late ∷ []) ≡ None
    → is_count counts n ≡ true
count_of true b n counts late c is h = absurd (cc)
count_of false true n counts late c is h = absurd (cc)
count_of false false n counts late true is h = is
count_of false false n counts late false is h = absurd (cc)

-- the card of a line can be added
abbrev pub CanSaid : Result (Option Card) Code → Type 0
CanSaid (Ok (Some card)) = CanAdd card
CanSaid (Ok None) = Unit {0}
CanSaid (Err code) = Unit {0}

said_with : (code : Option Code) (card : Card) → (code ≡ None → CanAdd card) → CanSaid (unless code (Some card))
said_with None card h = h refl
said_with (Some code) card h = tt

said_none : (code : Option Code) → CanSaid (unless code None)
said_none None = tt
said_none (Some code) = tt

-- a card that a line says, by any such table
said_by : (table : List (Entry Card)) (line : List ℕ) → EachCan table → CanSaid (said table line)
said_by table line each =
    let Goal : Option (Entry Card) → Option (List ℕ) → Type 0 = λ e o.
    CanSaid (unless (syntax_code (option_map (λ found. found.counts) e) line)
    (option_and_then (λ found. option_map found.says o) e)) in
    let with : (found : Entry Card) → CanEntry found → (o : Option (List ℕ)) → numbers_of line ≡ o → Goal (Some found) o =
    λ found can. elim [
      | None ↦ λ is. said_none _
      | Some ns ↦ λ is. said_with _ (found.says ns) (λ none.
          let count = count_of (nat_lt 4096 (length line)) (not (list_all is_plain line && true))
          (length (further_words (words line))) found.counts _ _ refl none in
          can ns (ap (is_count found.counts) (numbers_len (further_words (words line)) ns is) ∙ count))
    ] in
    let by : (e : Option (Entry Card)) → entry_of table line ≡ e → Goal e (numbers_of line) = elim [
      | None ↦ λ is. said_none _
      | Some found ↦ λ is. with found (named_can table (first_word (words line)) found each is) (numbers_of line) refl
    ] in
    let skip : (b : Bool) → CanSaid (if b then Ok None
    else unless (syntax_code (option_map (λ found. found.counts) (entry_of table line)) line)
    (option_and_then (λ found. option_map found.says (numbers_of line)) (entry_of table line))) = elim [
      | true ↦ tt
      | false ↦ by (entry_of table line) refl
    ] in
    skip (is_skipped line)

-- a card that a line says
pub said_can : (form : ℕ) (line : List ℕ) → CanSaid (said (cards form) line)
said_can form line = said_by (cards form) line (cards_can form)
