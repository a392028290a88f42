-- Words on a line, read again: none of their bytes is a blank or below one, so the words of the text are the words, and
-- the lines of texts are the texts.
use Rattle.std.proofs.Common.{◌≡◌, ℕ, zero, suc, ◌+◌, ◌-◌, ◌*◌, ◌/◌, ◌%◌, ◌<◌, ◌≤◌, ◌==◌, nat_le, min}
use Rattle.std.proofs.Common.{All, List, [], ◌∷◌, ◌++◌, length, Bool, true, false, ◌&&◌, refl, decimal}
use Rattle.std.proofs.Common.{arith, length-append, append_assoc, slice_index, get_or}
use Rattle.std.specs.List.{list_all}
use Rattle.std.specs.Fmt.{digits, digits_onto, digit_glyph}
use Rattle.std.proofs.lemmas.List.{take_all}
use Rattle.std.proofs.lemmas.List.Folds.{list_any_none}
use Rattle.std.proofs.lemmas.List.Sums.{AllPass-from_list_all}
use Rattle.std.proofs.lemmas.List.Elements.{All-nil, All-cons, All-append, All-head, All-tail}
use Rattle.std.proofs.lemmas.Bool.Decides.{nat_tests}
use Rattle.std.proofs.lemmas.Bool.{and_from, cond_both}
use Rattle.std.proofs.Math.Nat.{mod-lt}
use Rattle.transyt_io.specs.Lines.{is_blank, words, has_end, lines, line_of}
use Rattle.transyt_io.proofs.Lines.{cut_line}
use Rattle.transyt_io.proofs.SpacedWords.{IsOneWord, words_spaced}
use Rattle.transyt_audit.specs.Certificate.{spaced, joined, lines_text}

-- a byte of a word: printable ASCII, no blank
abbrev pub is_word_byte : ℕ → Bool
is_word_byte b = nat_le 33 b && nat_le b 126

-- a word of at most 64 bytes
pub record IsWord (word : List ℕ) : Type 0 where
  pub some : 0 < length word
  pub few : length word ≤ 64
  pub plain : list_all is_word_byte word ≡ true

-- each of these is such a word, so that those of a line are found by search
abbrev pub AreWords : List (List ℕ) → Type 0
AreWords [] = Unit {0}
AreWords (word ∷ more) = IsWord word × AreWords more

-- words and those after them
pub both_words : (us vs : List (List ℕ)) → AreWords us → AreWords vs → AreWords (us ++ vs)
both_words [] vs a b = b
both_words (u ∷ us) vs a b = (a.0, both_words us vs a.1 b)

digit_plain : (d : ℕ) → d < 10 → is_word_byte (digit_glyph false d) ≡ true
digit_plain d low = grind (arith, nat_tests)

-- digits in front of digits: one for a place at least, and at most one for each
record AreDigits (k : ℕ) (acc ds : List ℕ) : Type 0 where
  pub plain : list_all is_word_byte ds ≡ true
  pub some : length acc + min k 1 ≤ length ds
  pub few : length ds ≤ k + length acc

digits_are : (k n : ℕ) (acc : List ℕ) → list_all is_word_byte acc ≡ true
    → AreDigits k acc (digits_onto k 10 false n acc)
digits_are zero n acc h = record { plain = h; some = omega arith; few = omega arith }
digits_are (suc k) n acc h =
    let more = digit_glyph false (n % 10) ∷ acc in
    let plain : list_all is_word_byte more ≡ true =
    and_from (is_word_byte (digit_glyph false (n % 10))) (list_all is_word_byte acc)
    (digit_plain (n % 10) (mod-lt n (omega arith))) h in
    let rest = digits_are k (n / 10) more plain in
    cond_both (n / 10 == 0) more (digits_onto k 10 false (n / 10) more) (λ ds. AreDigits (suc k) acc ds)
    (λ done. record { plain = plain; some = omega arith; few = omega arith })
    (λ on. record { plain = rest.plain; some = omega (arith, rest.some); few = omega (arith, rest.few) })

-- the text of a number is a word
pub number_word : (n : ℕ) → IsWord (decimal n)
unfolding digits
number_word n =
    let all = digits_are 64 n [] refl in
    record { some = omega (arith, all.some); few = omega (arith, all.few); plain = all.plain }

not_blank : (b : ℕ) → is_word_byte b ≡ true → is_blank b ≡ false
not_blank b h = grind (arith, nat_tests)

not_below : (b : ℕ) → is_word_byte b ≡ true → 32 ≤ b
not_below b h = grind (arith, nat_tests)

are_one : (ws : List (List ℕ)) → AreWords ws → All IsOneWord ws
are_one [] h = All-nil IsOneWord
are_one (w ∷ ws) h =
    let plain = AllPass-from_list_all is_word_byte w h.0.plain in
    All-cons IsOneWord w ws
    (record { some = h.0.some; no_blank = λ i d below. not_blank (get_or w i d) (plain i d below) }) (are_one ws h.1)

-- the words of joined words are the words
pub words_joined : (ws : List (List ℕ)) → AreWords ws → words (joined ws) ≡ ws
words_joined [] h = refl
words_joined (w ∷ ws) h = words_spaced w ws (are_one (w ∷ ws) h)

-- a text that is its own line: at most 4,096 bytes, none of them below a blank
pub record IsText (text : List ℕ) : Type 0 where
  pub few : length text ≤ 4096
  pub plain : All (λ b. 32 ≤ b) text

other : (b c : ℕ) → c < b → (b == c) ≡ false
other b c h = grind (arith, nat_tests)

no_end_in_text : (text : List ℕ) → IsText text → has_end text ≡ false
no_end_in_text text h = list_any_none (λ b. b == 10) text (λ i d below. other _ 10 (omega (arith, h.plain i d below)))

no_return_at_end : (text : List ℕ) → All (λ b. 32 ≤ b) text → (slice_index text (length text - 1) == 13) ≡ false
no_return_at_end [] h = refl
no_return_at_end (b ∷ bs) h =
    let last = length (b ∷ bs) - 1 in other _ 13 (omega (arith, h last 0 (omega arith)))

line_same : (text : List ℕ) → IsText text → line_of text ≡ text
line_same text h = rw (no_return_at_end text h.plain) (take_all 4097 text (omega (arith, h.few)))

-- the lines of texts are the texts
pub lines_texts : (texts : List (List ℕ)) → All IsText texts → lines (lines_text texts) ≡ texts
lines_texts [] h = refl
lines_texts (text ∷ more) h =
    let here = All-head IsText text more h in
    rw (append_assoc text (10 ∷ []) (lines_text more), cut_line true text (lines_text more) (no_end_in_text text here))
    (λ j. line_same text here j ∷ lines_texts more (All-tail IsText text more h) j)

-- bytes of words, a blank before each, are none below a blank
word_bytes : (w : List ℕ) → IsWord w → All (λ b. 32 ≤ b) w
word_bytes w h = λ i d below. not_below _ (AllPass-from_list_all is_word_byte w h.plain i d below)

spaced_bytes : (ws : List (List ℕ)) → AreWords ws → All (λ b. 32 ≤ b) (spaced ws)
spaced_bytes [] h = All-nil (λ b. 32 ≤ b)
spaced_bytes (w ∷ ws) h =
    All-cons (λ b. 32 ≤ b) 32 (w ++ spaced ws) (omega arith)
    (All-append (λ b. 32 ≤ b) w (spaced ws) (word_bytes w h.0) (spaced_bytes ws h.1))

spaced_few : (ws : List (List ℕ)) → AreWords ws → length (spaced ws) ≤ 65 * length ws
spaced_few [] h = omega arith
spaced_few (w ∷ ws) h = omega (arith, length-append w (spaced ws), h.0.few, spaced_few ws h.1)

-- a few words make a text
pub joined_text : (ws : List (List ℕ)) → AreWords ws → length ws ≤ 60 → IsText (joined ws)
joined_text [] h few = record { few = omega arith; plain = All-nil (λ b. 32 ≤ b) }
joined_text (w ∷ ws) h few = record {
  few = omega (arith, length-append w (spaced ws), h.0.few, spaced_few ws h.1);
  plain = All-append (λ b. 32 ≤ b) w (spaced ws) (word_bytes w h.0) (spaced_bytes ws h.1);
}
