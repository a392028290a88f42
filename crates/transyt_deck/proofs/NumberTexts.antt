-- Numbers written on a line: their words, their bytes, and what is read again.
use Rattle.std.proofs.Common.{◌≡◌, ℕ, ◌*◌, ◌<◌, ◌≤◌, nat_lt, List, [], ◌∷◌, ◌++◌, map, filter, length, Bool}
use Rattle.std.proofs.Common.{true, false, cond, not, Option, Some, refl, ◌∙◌, ap, option_and_then, decimal, arith}
use Rattle.std.proofs.Common.{append_assoc, length-append, sym}
use Rattle.std.specs.List.{list_all, slice_split, onto_first}
use Rattle.std.specs.Option.{option_map}
use Rattle.std.specs.Char.{is_ascii_digit}
use Rattle.std.specs.Int.{IsInRange}
use Rattle.std.specs.Str.Parse.{digits_value, AllDigits, IsNumeral}
use Rattle.std.proofs.lemmas.Fmt.{decimal_is_IsNumeral, length-decimal-le}
use Rattle.std.proofs.lemmas.Str.Parse.{digit_at}
use Rattle.std.proofs.lemmas.List.{append-nil}
use Rattle.std.proofs.lemmas.List.Folds.{list_all-append}
use Rattle.std.proofs.lemmas.Bool.Decides.{nat_tests}
use Rattle.std.proofs.lemmas.Bool.{and_parts, and_from, not_from_false}
use Rattle.transyt_io.proofs.WordParts.{word_kept}
use Rattle.transyt_num.proofs.NumberLaws.{number_of-decimal}
use Rattle.transyt_io.specs.Lines.{is_blank, is_some_word, words}
use Rattle.transyt_syntax.specs.Syntax.{all_numbers, is_plain}
use Rattle.transyt_io.specs.Forms.{values_text}

digit_tests : (c : ℕ) → IsInRange 48 57 c → (is_ascii_digit c ≡ true) × (is_blank c ≡ false) × (is_plain c ≡ true)
digit_tests c h = (grind (arith, nat_tests), grind (arith, nat_tests), grind (arith, nat_tests))

digits_all : (p : ℕ → Bool) → ((c : ℕ) → IsInRange 48 57 c → p c ≡ true) → (ds : List ℕ) → AllDigits 10 ds
    → list_all p ds ≡ true
digits_all p each [] h = refl
digits_all p each (c ∷ cs) h =
    and_from (p c) (list_all p cs) (each c (digit_at (c ∷ cs) 0 h (omega arith))) (digits_all p each cs h.1)

-- a number that can stand on a card
abbrev pub is_small : ℕ → Bool
is_small n = nat_lt n 1000000000

small_is : (n : ℕ) → is_small n ≡ true → n < 1000000000
small_is n h = grind (arith, nat_tests)

numeral : (n : ℕ) → is_small n ≡ true → IsNumeral 10 (decimal n) × (digits_value 10 (decimal n) ≡ n)
numeral n h = let low : n < 1000000000 = small_is n h in decimal_is_IsNumeral n (omega arith)

short_decimal : (n : ℕ) → is_small n ≡ true → length (decimal n) ≤ 9
short_decimal n h =
    let low : n < 1000000000 = small_is n h in length-decimal-le 9 n (omega arith) (omega arith) (omega arith)

-- the numbers that are written are read
pub numbers_back : (ns : List ℕ) → list_all is_small ns ≡ true → all_numbers (map decimal ns) ≡ Some ns
numbers_back [] h = refl
numbers_back (n ∷ ns) h =
    let both = and_parts (is_small n) (list_all is_small ns) h in
    ap (λ (o : Option ℕ). option_and_then (λ n. option_map (λ ns. n ∷ ns) (all_numbers (map decimal ns))) o)
    (number_of-decimal n (small_is n both.0))
    ∙ ap (option_map (λ ns. n ∷ ns)) (numbers_back ns both.1)

prepend : List ℕ → List (List ℕ) → List (List ℕ)
prepend [] ls = ls
prepend (b ∷ bs) ls = onto_first b (prepend bs ls)

prepend_onto : (word v : List ℕ) (ls : List (List ℕ)) → prepend word (v ∷ ls) ≡ (word ++ v) ∷ ls
unfolding prepend
prepend_onto [] v ls = refl
prepend_onto (b ∷ bs) v ls = ap (onto_first b) (prepend_onto bs v ls)

not_blank : (b : Bool) (t : ℕ) (us vs : List (List ℕ)) → not b ≡ true → us ≡ vs
    → cond b ([] ∷ us) (onto_first t us) ≡ onto_first t vs
not_blank true t us vs h e = absurd (cc)
not_blank false t us vs h e = ap (onto_first t) e

split_word : (word rest : List ℕ) → list_all (λ b. not (is_blank b)) word ≡ true
    → slice_split is_blank (word ++ rest) ≡ prepend word (slice_split is_blank rest)
unfolding prepend
split_word [] rest h = refl
split_word (b ∷ bs) rest h =
    let both = and_parts (not (is_blank b)) (list_all (λ b. not (is_blank b)) bs) h in
    not_blank (is_blank b) b _ _ both.0 (split_word bs rest both.1)

split_numbers : (ns : List ℕ) → list_all is_small ns ≡ true
    → slice_split is_blank (values_text ns) ≡ [] ∷ map decimal ns
unfolding values_text
split_numbers [] h = refl
split_numbers (n ∷ ns) h =
    let both = and_parts (is_small n) (list_all is_small ns) h in
    ap (λ (l : List (List ℕ)). [] ∷ l)
    (split_word (decimal n) (values_text ns)
    (digits_all (λ b. not (is_blank b)) (λ c r. not_from_false _ ((digit_tests c r).1)) (decimal n)
    (numeral n both.0).0.1)
    ∙ ap (prepend (decimal n)) (split_numbers ns both.1)
    ∙ prepend_onto (decimal n) [] (map decimal ns)
    ∙ ap (λ (l : List ℕ). l ∷ map decimal ns) (append-nil (decimal n)))

keep_numbers : (ns : List ℕ) → list_all is_small ns ≡ true → filter is_some_word (map decimal ns) ≡ map decimal ns
keep_numbers [] h = refl
keep_numbers (n ∷ ns) h =
    let both = and_parts (is_small n) (list_all is_small ns) h in
    word_kept (decimal n) (map decimal ns) (numeral n both.0).0.0
    ∙ ap (λ (l : List (List ℕ)). decimal n ∷ l) (keep_numbers ns both.1)

-- the words of a keyword and numbers
pub words_text : (word ns : List ℕ) → list_all (λ b. not (is_blank b)) word ≡ true → 0 < length word
    → list_all is_small ns ≡ true → words (word ++ values_text ns) ≡ word ∷ map decimal ns
words_text word ns plain some small =
    ap (filter is_some_word)
    (split_word word (values_text ns) plain
    ∙ ap (prepend word) (split_numbers ns small)
    ∙ prepend_onto word [] (map decimal ns)
    ∙ ap (λ (l : List ℕ). l ∷ map decimal ns) (append-nil word))
    ∙ word_kept word (map decimal ns) some
    ∙ ap (λ (l : List (List ℕ)). word ∷ l) (keep_numbers ns small)

-- numbers and those after them
pub values_both : (xs ys : List ℕ) → values_text (xs ++ ys) ≡ values_text xs ++ values_text ys
unfolding values_text
values_both [] ys = refl
values_both (x ∷ xs) ys =
    ap (λ (l : List ℕ). (32 ∷ decimal x) ++ l) (values_both xs ys)
    ∙ sym (append_assoc (32 ∷ decimal x) (values_text xs) (values_text ys))

-- numbers are written in bytes that may stand on a line
pub numbers_plain : (ns : List ℕ) → list_all is_small ns ≡ true → list_all is_plain (values_text ns) ≡ true
unfolding values_text
numbers_plain [] h = refl
numbers_plain (n ∷ ns) h =
    let both = and_parts (is_small n) (list_all is_small ns) h in
    list_all-append is_plain (decimal n) (values_text ns)
    ∙ and_from _ _ (digits_all is_plain (λ c r. (digit_tests c r).2) (decimal n) (numeral n both.0).0.1)
    (numbers_plain ns both.1)

-- a number and its blank have at most ten bytes
pub numbers_short : (ns : List ℕ) → list_all is_small ns ≡ true → length (values_text ns) ≤ 10 * length ns
unfolding values_text
numbers_short [] h = omega arith
numbers_short (n ∷ ns) h =
    let both = and_parts (is_small n) (list_all is_small ns) h in
    let one = short_decimal n both.0 in
    let more = numbers_short ns both.1 in
    omega (arith, length-append (decimal n) (values_text ns))
