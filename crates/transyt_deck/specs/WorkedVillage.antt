-- A worked deck of form 1, which leaves out the dispersion; and worked bytes, lines and readers.
use Rattle.std.specs.Prelude.{ℕ, List, [], ◌∷◌, ◌++◌, codes, flat_map, None, Result, Ok, Err}
use Rattle.transyt_syntax.specs.declared.code.Code.TheVariants as code
use Rattle.transyt_parts.specs.Made.{new_link, new_stage}
use Rattle.transyt_net.specs.Parts.{Network}
use Rattle.transyt_deck.specs.declared.cut.Cut.{Cut}
use Rattle.transyt_deck.specs.declared.reader.CardStop.{CardStop}
use Rattle.transyt_deck.specs.declared.reader.CardStop.TheVariants as stop

-- the lines of the deck up to END
abbrev village_cards : List (List ℕ)
village_cards =
    codes "CYCLE 90 18 3 45 37" ∷ codes "NODE 21 4" ∷ codes "STAGE 2 1 3" ∷ codes "STAGE 8 2 4"
    ∷ codes "LINK 9 21 613 1877 2 11 2 1" ∷ []

-- the lines of the deck
abbrev pub village : List (List ℕ)
village = village_cards ++ codes "END" ∷ []

-- its network, with a dispersion of 35 and lags of 0
abbrev pub village_net : Network
village_net = record {
  frame = record { cycle = 90; step_count = 18; sweeps = 3; period = 45; stop_penalty = 37; dispersion = 35 };
  nodes = record { number = 21; offset = 4; stages = new_stage 2 1 3 ∷ new_stage 8 2 4 ∷ [] } ∷ [];
  links = new_link 9 21 613 1877 2 11 0 0 (2 ∷ 1 ∷ []) ∷ [];
  plan = None;
}

-- lines as bytes, each with its line end
abbrev pub bytes_of : List (List ℕ) → List ℕ
bytes_of lines = flat_map (λ line. line ++ 10 ∷ []) lines

-- bytes, with their cut: the deck with END's line end, a carriage return and a line end, and none, then one that is
-- refused
abbrev pub cuts : List (List ℕ × Result Cut CardStop)
cuts =
    (bytes_of (village ++ codes "INDEX" ∷ []), Ok (record { net = village_net; line = 6; rest = 86 }))
    ∷ (
      bytes_of village_cards ++ codes "END" ++ 13 ∷ 10 ∷ 10 ∷ 65 ∷ [],
      Ok (record { net = village_net; line = 6; rest = 87 }),
    )
    ∷ (
      codes "* END" ++ 10 ∷ bytes_of village_cards ++ codes "END",
      Ok (record { net = village_net; line = 7; rest = 91 }),
    )
    ∷ (codes "FORM 1" ++ 10 ∷ codes "END", Err (stop.Refused 2 code.OutOfPlace)) ∷ []

-- lines, with what a reader finishes with after them
abbrev pub finishes : List (List (List ℕ) × Result Network CardStop)
finishes =
    (village, Ok village_net) ∷ (codes "FORM 1" ∷ codes "END" ∷ [], Err (stop.Refused 2 code.OutOfPlace))
    ∷ (village_cards, Err (stop.Refused 6 code.NoEnd)) ∷ []
