-- The certificate of a network: the index with each move of the list made, line by line, and its words as text.
use Rattle.std.specs.Prelude.{ℕ, List, [], ◌∷◌, ◌++◌, flat_map, map, codes, decimal, Option, Some, None}
use Rattle.std.specs.List.{range_with_len}
use Rattle.transyt_net.specs.declared.edit.Edit.{Edit}
use Rattle.transyt_net.specs.declared.edit.Edit.TheVariants.{Offset, Change}
use Rattle.transyt_net.specs.Parts.{Network}
use Rattle.transyt_moves.specs.Moves.{move, move_count}
use Rattle.transyt_sweep.specs.Sweeps.{index}
use Rattle.transyt_sweep.specs.Climb.{tried_at}

-- the words, a blank before each
abbrev pub spaced : List (List ℕ) → List ℕ
spaced words = flat_map (λ word. 32 ∷ word) words

-- the words, one blank between two of them
abbrev pub joined : List (List ℕ) → List ℕ
joined [] = []
joined (word ∷ more) = word ++ spaced more

-- the lines of these texts, one line end after each
abbrev pub lines_text : List (List ℕ) → List ℕ
lines_text texts = flat_map (λ text. text ++ 10 ∷ []) texts

-- one line of a certificate: the place, the move that stands there, and the index with it, or none where it is barred
pub record CertLine : Type 0 where
  pub place : ℕ
  pub edit : Edit
  pub tried : Option ℕ

-- a line of these
abbrev pub new_line : ℕ → Edit → Option ℕ → CertLine
new_line place edit tried = record { place = place; edit = edit; tried = tried }

-- the line of a place
abbrev pub cert_line : Network → ℕ → CertLine
cert_line net place = new_line place (move net place) (tried_at net place)

-- a line for each place of the list
abbrev pub cert_lines : Network → List CertLine
cert_lines net = map (cert_line net) (range_with_len 0 (move_count net))

-- the words of a move; another edit has none
abbrev pub edit_words : Edit → List (List ℕ)
edit_words (Offset node offset) = codes "OFFSET" ∷ decimal node ∷ decimal offset ∷ []
edit_words (Change node stage change) = codes "CHANGE" ∷ decimal node ∷ decimal stage ∷ decimal change ∷ []
edit_words e = []

-- the words of an index, or of a barred move
abbrev pub tried_words : Option ℕ → List (List ℕ)
tried_words None = codes "BARRED" ∷ []
tried_words (Some x) = codes "INDEX" ∷ decimal x ∷ []

-- the words of a place's line
abbrev pub move_words : CertLine → List (List ℕ)
move_words l = codes "MOVE" ∷ decimal l.place ∷ (edit_words l.edit ++ tried_words l.tried)

-- the words of the last line: how many places there are, and the index of the network
abbrev pub end_words : ℕ → ℕ → List (List ℕ)
end_words count x = codes "CERT" ∷ decimal count ∷ tried_words (Some x)

-- the text of a place's line, its line end with it
abbrev pub move_text : ℕ → Edit → Option ℕ → List ℕ
move_text place edit tried = joined (move_words (new_line place edit tried)) ++ 10 ∷ []

-- the text of the last line, its line end with it
abbrev pub last_text : ℕ → ℕ → List ℕ
last_text count x = joined (end_words count x) ++ 10 ∷ []

-- the line for a place in the list, its line end with it
abbrev pub place_text : Network → ℕ → List ℕ
place_text net place = move_text place (move net place) (tried_at net place)

-- the texts of a certificate's lines, without their line ends
abbrev pub cert_texts : Network → List (List ℕ)
cert_texts net =
    map (λ l. joined (move_words l)) (cert_lines net) ++ joined (end_words (move_count net) (index net)) ∷ []

-- the text of a certificate, each line with its line end
abbrev pub cert_text : Network → List ℕ
cert_text net = lines_text (cert_texts net)
