-- The case that a word is handed: the deck at the front of an input, and the table after it.
use Rattle.std.specs.Prelude.{ℕ, List, drop}
use Rattle.transyt_net.specs.Parts.{Network}
use Rattle.transyt_deck.specs.declared.cut.Cut.{Cut}

-- the network of the deck, the number of END's line, and the table: the bytes after that line
pub record CaseValue : Type 0 where
  pub net : Network
  pub line : ℕ
  pub table : List ℕ

-- the case of an input whose cut this is
abbrev pub case_of : List ℕ → Cut → CaseValue
case_of input cut = record { net = cut.net; line = cut.line; table = drop cut.rest input }
