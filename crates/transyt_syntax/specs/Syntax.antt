-- A line as a keyword and its numbers, and the first of several findings in an order of tests.
use Rattle.std.specs.Prelude.{Bool, List, [], ◌∷◌, Option, Some, None, if◌then◌else◌, ℕ, ◌&&◌, ◌||◌, not, nat_le}
use Rattle.std.specs.Prelude.{nat_lt, length, get_or, drop, is_some, unwrap_or, option_and_then, Result, Ok, Err}
use Rattle.std.specs.Prelude.{option_map, bytes_eq}
use Rattle.std.specs.Option.{option_or}
use Rattle.std.specs.List.{list_all}
use Rattle.transyt_num.specs.Number.{number_of}
use Rattle.transyt_io.specs.Lines.{words, is_blank, is_skipped}
use Rattle.transyt_syntax.specs.declared.code.Code.{Code}
use Rattle.transyt_syntax.specs.declared.code.Code.TheVariants as code

-- a finding where a test holds
abbrev pub when : {A : Type 0} → Bool → A → Option A
when test finding = if test then Some finding else None

-- the first finding that is there
abbrev pub first_found : {A : Type 0} → List (Option A) → Option A
first_found [] = None
first_found (finding ∷ later) = option_or finding (first_found later)

-- an entry of a table of keywords: the keyword, the least and the most numbers after it, and what it says with them
pub record Entry (A : Type 0) : Type 0 where
  pub word : List ℕ
  pub counts : ℕ × ℕ
  pub says : List ℕ → A

-- an entry of a keyword with this many numbers
abbrev pub entry : {A : Type 0} → List ℕ → ℕ → (List ℕ → A) → Entry A
entry word count says = record { word = word; counts = (count, count); says = says }

-- an entry of a keyword with from the least to the most numbers
abbrev pub ranged : {A : Type 0} → List ℕ → ℕ → ℕ → (List ℕ → A) → Entry A
ranged word least most says = record { word = word; counts = (least, most); says = says }

-- the entry of a keyword in a table
abbrev pub named : {A : Type 0} → List (Entry A) → List ℕ → Option (Entry A)
named [] word = None
named (entry ∷ more) word = if bytes_eq word entry.word then Some entry else named more word

-- the counts of an entry, and what it says with these numbers
abbrev pub with_numbers : {A : Type 0} → List ℕ → Option (Entry A) → Option ((ℕ × ℕ) × A)
with_numbers ns None = None
with_numbers ns (Some found) = Some (found.counts, found.says ns)

-- a byte that a line may hold: printable ASCII (33 to 126), a blank or a tab
abbrev pub is_plain : ℕ → Bool
is_plain b = is_blank b || (nat_le 33 b && nat_le b 126)

-- the keyword: the first word, or no bytes where there is no word
abbrev pub first_word : List (List ℕ) → List ℕ
first_word words = get_or words 0 []

-- the words after the keyword
abbrev pub further_words : List (List ℕ) → List (List ℕ)
further_words words = drop 1 words

-- the values of words, where all are numbers
abbrev pub all_numbers : List (List ℕ) → Option (List ℕ)
all_numbers [] = Some []
all_numbers (word ∷ more) = option_and_then (λ n. option_map (λ ns. n ∷ ns) (all_numbers more)) (number_of word)

-- the numbers after a line's keyword, where all words there are numbers
abbrev pub numbers_of : List ℕ → Option (List ℕ)
numbers_of line = all_numbers (further_words (words line))

-- n is from the least to the most of these counts
abbrev pub is_count : ℕ × ℕ → ℕ → Bool
is_count counts n = nat_le counts.0 n && nat_le n counts.1

-- the numbers that words are, where they are at most 17 and all are numbers
abbrev pub few_numbers : List (List ℕ) → Option (List ℕ)
few_numbers words = if nat_le (length words) 17 then all_numbers words else None

-- The first of the codes 11, 10, 12 and 13 that holds of a line. The counts are the least and the most
-- numbers that its keyword takes, or none where its first word is no keyword.
abbrev pub syntax_code : Option (ℕ × ℕ) → List ℕ → Option Code
syntax_code counts line = first_found (
    when (nat_lt 4096 (length line)) code.LongLine
    ∷ when (not (list_all is_plain line && is_some counts)) code.OddByte
    ∷ when (not (is_count (unwrap_or counts (0, 0)) (length (further_words (words line))))) code.WrongCount
    ∷ when (not (is_some (numbers_of line))) code.NoNumber ∷ [])

-- the entry of a line's keyword
abbrev pub entry_of : {A : Type 0} → List (Entry A) → List ℕ → Option (Entry A)
entry_of table line = named table (first_word (words line))

-- the counts of a line's keyword
abbrev pub counts_of : {A : Type 0} → List (Entry A) → List ℕ → Option (ℕ × ℕ)
counts_of table line = option_map (λ found. found.counts) (entry_of table line)

-- the entry of a line's keyword, with its numbers
abbrev pub says_of : {A : Type 0} → List (Entry A) → List ℕ → Option A
says_of table line = option_and_then (λ found. option_map found.says (numbers_of line)) (entry_of table line)

-- a code as a refusal, or with no code the meaning
abbrev pub unless : {A : Type 0} → Option Code → A → Result A Code
unless (Some code) said = Err code
unless None said = Ok said

-- the meaning of a line by a table of keywords: none where it is skipped; else its code, or the meaning of its keyword
abbrev pub said : {A : Type 0} → List (Entry A) → List ℕ → Result (Option A) Code
said table line =
    if is_skipped line then Ok None else unless (syntax_code (counts_of table line) line) (says_of table line)

-- number i after a keyword, from 0, and 0 past the last
abbrev pub at : List ℕ → ℕ → ℕ
at ns i = get_or ns i 0
