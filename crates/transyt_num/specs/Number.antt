-- Numbers as text: decimal digits, the greatest place first.
use Rattle.std.specs.Prelude.{◌≡◌, ℕ, ◌+◌, ◌-◌, ◌*◌, ◌<◌, true, ◌&&◌, nat_le, List, length, fold, slice_index}
use Rattle.std.specs.Prelude.{Option, Some, None, if◌then◌else◌}
use Rattle.std.specs.Char.{is_ascii_digit}
use Rattle.std.specs.List.{list_all}

-- the value of a word of digits
abbrev pub word_value : List ℕ → ℕ
word_value word = fold (λ value digit. value * 10 + (digit - 48)) 0 word

-- the value of a word of 1 to 9 decimal digits, else none; zeros in front are allowed
abbrev pub number_of : List ℕ → Option ℕ
number_of word =
    if nat_le 1 (length word) && nat_le (length word) 9 && list_all is_ascii_digit word
    then Some (word_value word) else None

-- The shortest text of a number: at least one digit, digits alone, of that value, and no zero in front but in `0`.
pub record IsShortest (number : ℕ) (text : List ℕ) : Type 0 where
  pub some : 0 < length text
  pub digits : list_all is_ascii_digit text ≡ true
  pub value : word_value text ≡ number
  pub zero : number ≡ 0 → length text ≡ 1
  pub front : 0 < number → 48 < slice_index text 0
