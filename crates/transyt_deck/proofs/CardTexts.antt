-- A card's text reads back as the card.
use Rattle.std.proofs.Common.{◌≡◌, ℕ, ◌<◌, ◌≤◌, nat_lt, List, [], ◌∷◌, map, length, Bool, true, false, cond, not}
use Rattle.std.proofs.Common.{Option, Some, None, Ok, refl, ◌∙◌, ap, unwrap_or, is_some, option_and_then, decimal}
use Rattle.std.proofs.Common.{arith, length-append}
use Rattle.std.proofs.Math.Bool.{and-false}
use Rattle.std.specs.List.{list_all}
use Rattle.std.specs.Option.{option_map}
use Rattle.std.proofs.lemmas.List.{length-map}
use Rattle.std.proofs.lemmas.List.Folds.{list_all-append}
use Rattle.std.proofs.lemmas.Bool.Decides.{nat_tests}
use Rattle.std.proofs.lemmas.Bool.{and_from}
use Rattle.transyt_io.specs.Lines.{is_blank, is_skipped, words}
use Rattle.transyt_syntax.specs.declared.code.Code.{Code}
use Rattle.transyt_syntax.specs.declared.code.Code.TheVariants as code
use Rattle.transyt_syntax.specs.Syntax.{first_found, when, Entry, all_numbers, counts_of, entry_of, first_word}
use Rattle.transyt_syntax.specs.Syntax.{further_words, is_count, is_plain, named, numbers_of, said, says_of}
use Rattle.transyt_syntax.specs.Syntax.{syntax_code, unless}
use Rattle.transyt_deck.specs.declared.card.Card.{Card}
use Rattle.transyt_deck.specs.declared.card.Card.TheVariants as c
use Rattle.transyt_io.specs.Forms.{values_text}
use Rattle.transyt_deck.specs.Cards.{card_text, card_words, cards}
use Rattle.transyt_deck.proofs.NumberTexts.{is_small, numbers_back, numbers_plain, numbers_short, words_text}

keyword_tests : (card : Card)
    → (list_all (λ b. not (is_blank b)) (card_words card).0 ≡ true) × (0 < length (card_words card).0)
    × (length (card_words card).0 ≤ 5) × (list_all is_plain (card_words card).0 ≡ true)
keyword_tests c.End = (refl, omega arith, omega arith, refl)
keyword_tests card = (refl, omega arith, omega arith, refl)

not_skipped : (card : Card) → is_skipped (card_text card) ≡ false
unfolding values_text
not_skipped c.End = refl
not_skipped card = and-false _

-- the entry of a card's keyword in a deck of this form
abbrev pub entry_at : ℕ → Card → Option (Entry Card)
entry_at form card = named (cards form) (card_words card).0

-- a card that a line of this form can say
pub record Fits (form : ℕ) (card : Card) : Type 0 where
  pub small : list_all is_small (card_words card).1 ≡ true
  pub few : length (card_words card).1 ≤ 17
  pub count : option_map (λ e. is_count e.counts (length (card_words card).1)) (entry_at form card) ≡ Some true
  pub back : option_map (λ e. e.says (card_words card).1) (entry_at form card) ≡ Some card

words_card : (card : Card) → list_all is_small (card_words card).1 ≡ true
    → words (card_text card) ≡ (card_words card).0 ∷ map decimal (card_words card).1
words_card card small = let k = keyword_tests card in words_text (card_words card).0 (card_words card).1 k.0 k.1 small

entry_card : (form : ℕ) (card : Card) → list_all is_small (card_words card).1 ≡ true
    → entry_of (cards form) (card_text card) ≡ entry_at form card
entry_card form card small =
    ap (λ (ws : List (List ℕ)). named (cards form) (first_word ws)) (words_card card small)

numbers_card : (card : Card) → list_all is_small (card_words card).1 ≡ true
    → numbers_of (card_text card) ≡ Some (card_words card).1
numbers_card card small =
    ap (λ (ws : List (List ℕ)). all_numbers (further_words ws)) (words_card card small)
    ∙ numbers_back (card_words card).1 small

-- a card's bytes may stand on a line
pub card_plain : (card : Card) → list_all is_small (card_words card).1 ≡ true → list_all is_plain (card_text card) ≡ true
card_plain card small =
    list_all-append is_plain (card_words card).0 (values_text (card_words card).1)
    ∙ and_from _ _ (keyword_tests card).3 (numbers_plain (card_words card).1 small)

-- a card is no longer than a line may be
pub card_short : (card : Card) → list_all is_small (card_words card).1 ≡ true → length (card_words card).1 ≤ 17
    → length (card_text card) ≤ 4096
card_short card small few =
    let k : length (card_words card).0 ≤ 5 = (keyword_tests card).2 in
    let ns = numbers_short (card_words card).1 small in
    omega (arith, length-append (card_words card).0 (values_text (card_words card).1))

not_long : (n : ℕ) → n ≤ 4096 → nat_lt 4096 n ≡ false
not_long n h = grind (arith, nat_tests)

counted : (o : Option (Entry Card)) (n : ℕ) → option_map (λ e. is_count e.counts n) o ≡ Some true
    → (is_some (option_map (λ (e : Entry Card). e.counts) o) ≡ true)
    × (is_count (unwrap_or (option_map (λ (e : Entry Card). e.counts) o) (0, 0)) n ≡ true)
counted None n h = absurd (cc)
counted (Some e) n h = (refl, cc)

says_with : (o : Option (Entry Card)) (ns : List ℕ)
    → option_and_then (λ e. option_map e.says (Some ns)) o ≡ option_map (λ e. e.says ns) o
says_with None ns = refl
says_with (Some e) ns = refl

abbrev syntax_by : Bool → Bool → Bool → Bool → Option Code
syntax_by long plain counted numbers =
    first_found (when long code.LongLine ∷ when (not plain) code.OddByte ∷ when (not counted) code.WrongCount
    ∷ when (not numbers) code.NoNumber ∷ [])

syntax_card : (form : ℕ) (card : Card) → Fits form card
    → syntax_code (counts_of (cards form) (card_text card)) (card_text card) ≡ None
syntax_card form card fits =
    let text = card_text card in
    let found : counts_of (cards form) text ≡ option_map (λ e. e.counts) (entry_at form card) =
    ap (option_map (λ (e : Entry Card). e.counts)) (entry_card form card fits.small) in
    let number : length (further_words (words text)) ≡ length (card_words card).1 =
    ap (λ (ws : List (List ℕ)). length (further_words ws)) (words_card card fits.small)
    ∙ length-map (card_words card).1 decimal in
    let count = counted (entry_at form card) (length (card_words card).1) fits.count in
    let plain = and_from (list_all is_plain text) (is_some (counts_of (cards form) text))
    (card_plain card fits.small) (ap (λ (o : Option (ℕ × ℕ)). is_some o) found ∙ count.0) in
    let enough = (λ j. is_count (unwrap_or (found j) (0, 0)) (number j)) ∙ count.1 in
    let read : is_some (numbers_of text) ≡ true =
    ap (λ (o : Option (List ℕ)). is_some o) (numbers_card card fits.small) in
    λ j. syntax_by (not_long (length text) (card_short card fits.small fits.few) j) (plain j) (enough j) (read j)

says_card : (form : ℕ) (card : Card) → Fits form card → says_of (cards form) (card_text card) ≡ Some card
says_card form card fits =
    (λ j. option_and_then (λ (e : Entry Card). option_map e.says (numbers_card card fits.small j))
    (entry_card form card fits.small j))
    ∙ says_with (entry_at form card) (card_words card).1 ∙ fits.back

-- the line of a card says the card
pub said_card : (form : ℕ) (card : Card) → Fits form card → said (cards form) (card_text card) ≡ Ok (Some card)
said_card form card fits =
    λ j. cond (not_skipped card j) (Ok None) (unless (syntax_card form card fits j) (says_card form card fits j))
