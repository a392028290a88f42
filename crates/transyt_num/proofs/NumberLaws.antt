-- Laws of numbers as text.
use Rattle.std.proofs.Common.{◌≡◌, ℕ, ◌+◌, ◌-◌, ◌*◌, ◌/◌, ◌%◌, ◌^◌, ◌<◌, ◌≤◌, List, [], ◌∷◌, ◌++◌, length, true, Some}
use Rattle.std.proofs.Common.{arith}
use Rattle.std.specs.Char.{is_ascii_digit}
use Rattle.std.specs.Fmt.{decimal}
use Rattle.std.specs.List.{list_all}
use Rattle.std.proofs.lemmas.Bool.Decides.{nat_tests}
use Rattle.std.proofs.lemmas.Fmt.{decimal_by_steps_wide, length-decimal-le_wide}
use Rattle.std.proofs.lemmas.Grind.{common_steps}
use Rattle.std.proofs.lemmas.List.{length_push, get_or_append_left}
use Rattle.std.proofs.lemmas.List.Folds.{list_all-append}
use Rattle.std.proofs.lemmas.List.Sums.{fold-append}
use Rattle.std.proofs.Math.Nat.{mod-lt, mod-add-div'}
use Rattle.transyt_num.specs.Number.{word_value, number_of, IsShortest}

-- one digit more at the end gives ten times the value and the digit
pub word_value_push : (ds : List ℕ) (c : ℕ) → word_value (ds ++ c ∷ []) ≡ word_value ds * 10 + (c - 48)
word_value_push ds c = fold-append (λ value digit. value * 10 + (digit - 48)) 0 ds (c ∷ [])

-- the shortest text of a value below ten is its digit
shortest_digit : (n : ℕ) → n < 10 → IsShortest n ((48 + n) ∷ [])
shortest_digit n small = grind (arith, nat_tests)

-- that of a value from ten on is the text of its tenth part and the digit that is left
shortest_more : (n : ℕ) (ds : List ℕ) → 10 ≤ n → IsShortest (n / 10) ds → IsShortest n (ds ++ (48 + n % 10) ∷ [])
shortest_more n ds wide tenth =
    let digit : n % 10 < 10 = mod-lt n (omega arith) in
    let whole : n % 10 + n / 10 * 10 ≡ n = mod-add-div' n 10 in
    let first = tenth.front (omega arith) in
    let last : List ℕ = (48 + n % 10) ∷ [] in
    grind (
      arith,
      nat_tests,
      length_push ds (48 + n % 10),
      list_all-append is_ascii_digit ds last,
      word_value_push ds (48 + n % 10),
      get_or_append_left ds last 0 0 tenth.some,
    )

-- std's text of a value is the shortest
pub shortest_decimal : (n : ℕ) → n < 10 ^ 64 → IsShortest n (decimal n)
shortest_decimal n fits = decimal_by_steps_wide IsShortest shortest_digit shortest_more n fits

-- the tests that make a word of nine digits a number
reads : (word : List ℕ) (n : ℕ) → 0 < length word → length word ≤ 9
    → list_all is_ascii_digit word ≡ true → word_value word ≡ n → number_of word ≡ Some n
reads word n some few digits value = grind (arith, nat_tests, common_steps)

-- the text of a value of at most nine digits reads as the value
pub number_of-decimal : (n : ℕ) → n < 1000000000 → number_of (decimal n) ≡ Some n
number_of-decimal n small =
    let text : IsShortest n (decimal n) = shortest_decimal n (omega arith) in
    let few : length (decimal n) ≤ 9 = length-decimal-le_wide 9 n (omega arith) (omega arith) (omega arith) in
    reads (decimal n) n text.some few text.digits text.value
