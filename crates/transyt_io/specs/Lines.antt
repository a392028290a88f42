-- The lines of a list of bytes, those that are skipped, and the words of the others.
use Rattle.std.specs.Prelude.{ℕ, List, [], ◌∷◌, ◌==◌, ◌||◌, ◌&&◌, nat_le, Bool, true, false, if◌then◌else◌, map, take}
use Rattle.std.specs.Prelude.{filter, length}
use Rattle.std.specs.List.{list_all, list_any, slice_split}
use Rattle.std.specs.Str.Lines.{strip_carriage_return}

-- b before the first of these parts; with none, b is a part where bytes with no line end are kept
abbrev pub onto_first : Bool → ℕ → List (List ℕ) → List (List ℕ)
onto_first keep b [] = if keep then (b ∷ []) ∷ [] else []
onto_first keep b (part ∷ parts) = (b ∷ part) ∷ parts

-- the bytes, cut at each line end; the bytes after the last line end are a part, if there are any, where they are kept
abbrev pub cut : Bool → List ℕ → List (List ℕ)
cut keep [] = []
cut keep (b ∷ bs) = if b == 10 then [] ∷ cut keep bs else onto_first keep b (cut keep bs)

-- the bytes after the first line end; none where there is no line end
abbrev pub after_first_line : List ℕ → List ℕ
after_first_line [] = []
after_first_line (b ∷ bs) = if b == 10 then bs else after_first_line bs

-- the line of such a part: without one carriage return at its end, and of a line over 4,096 bytes the first 4,097
abbrev pub line_of : List ℕ → List ℕ
line_of raw = take 4097 (strip_carriage_return raw)

-- the lines of such parts
abbrev pub lines_by : Bool → List ℕ → List (List ℕ)
lines_by keep bytes = map line_of (cut keep bytes)

-- the lines of the bytes
abbrev pub lines : List ℕ → List (List ℕ)
lines bytes = lines_by true bytes

-- the lines that have their line end
abbrev pub whole : List ℕ → List (List ℕ)
whole bytes = lines_by false bytes

-- some byte is a line end
abbrev pub has_end : List ℕ → Bool
has_end bytes = list_any (λ b. b == 10) bytes

-- a blank or a tab
abbrev pub is_blank : ℕ → Bool
is_blank b = b == 32 || b == 9

-- a part has some byte
abbrev pub is_some_word : List ℕ → Bool
is_some_word [] = false
is_some_word (b ∷ bs) = true

-- the words of a line: its longest runs of bytes that are neither blank nor tab
abbrev pub words : List ℕ → List (List ℕ)
words line = filter is_some_word (slice_split is_blank line)

-- the first byte is `*`
abbrev pub is_comment : List ℕ → Bool
is_comment [] = false
is_comment (b ∷ bs) = b == 42

-- a line of at most 4,096 bytes that is a comment, or blanks and tabs alone, none among them
abbrev pub is_skipped : List ℕ → Bool
is_skipped line = nat_le (length line) 4096 && (is_comment line || list_all is_blank line)
