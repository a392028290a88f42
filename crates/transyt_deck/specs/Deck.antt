-- The deck that lines make: refused, complete with its network, or open; and what follows a deck in the same bytes.
use Rattle.std.specs.Prelude.{ℕ, ◌+◌, Bool, true, false, List, fold, Option, Some, None, Result, Ok, Err, ◌≡◌, ◌||◌}
use Rattle.std.specs.Prelude.{not, is_some, IsTrue, zero, suc, ◌-◌, length}
use Rattle.transyt_syntax.specs.declared.code.Code.{Code}
use Rattle.transyt_net.specs.Parts.{Network}
use Rattle.transyt_deck.specs.State.{State, state_after}
use Rattle.transyt_deck.specs.declared.reader.Progress.{Progress}
use Rattle.std.specs.Result.{result_map_both}
use Rattle.transyt_io.specs.Lines.{lines, after_first_line}
use Rattle.transyt_deck.specs.declared.cut.Cut.{Cut}
use Rattle.transyt_deck.specs.declared.state.Part.TheVariants as p
use Rattle.transyt_deck.specs.declared.state.State.TheVariants as s
use Rattle.transyt_syntax.specs.declared.code.Code.TheVariants as codes
pub use Rattle.transyt_deck.specs.declared.reader.CardStop.{CardStop}
use Rattle.transyt_deck.specs.declared.reader.CardStop.TheVariants as stop
use Rattle.transyt_deck.specs.declared.reader.Progress.TheVariants as progress

-- refused at the line with this number, from 1, with its first code; complete at END's line, with the network; or open
-- after so many lines, where neither holds
pub data Deck : Type 0 where
  Refused : ℕ → Code → Deck
  Complete : ℕ → Network → Deck
  Open : ℕ → State → Deck

-- the deck after so many accepted lines: complete where the last is END
abbrev pub deck_at : ℕ → State → Deck
deck_at number (s.Making form p.End net) = Complete number net
deck_at number state = Open number state

-- the deck after a line with this number, by the state after it or its code
abbrev pub deck_by : ℕ → Result State Code → Deck
deck_by number (Ok state) = deck_at number state
deck_by number (Err code) = Refused number code

-- the deck after one line more; a deck that is refused or complete stays
abbrev pub next : Deck → List ℕ → Deck
next (Open count state) line = deck_by (count + 1) (state_after state line)
next made line = made

-- before the first line
abbrev pub start : Deck
start = Open 0 s.Start

-- the deck of lines, one after another
abbrev pub deck : List (List ℕ) → Deck
deck lines = fold next start lines

-- the code of a deck that is refused
abbrev pub code_of : Deck → Option Code
code_of (Refused number code) = Some code
code_of _ = None

-- the first code that holds of a line after others, none of which has a code or is END
abbrev pub code : List (List ℕ) → List ℕ → Option Code
code before line = code_of (next (deck before) line)

-- whether a deck is open
abbrev pub is_open : Deck → Bool
is_open (Open count state) = true
is_open _ = false

-- whether a deck is complete
abbrev pub is_complete : Deck → Bool
is_complete (Complete number net) = true
is_complete _ = false

-- how many lines a deck was read from: all of them, or those up to END or to the refused line
abbrev pub line_count : Deck → ℕ
line_count (Open count state) = count
line_count (Complete number net) = number
line_count (Refused number code) = number

-- the network of a deck so far: from an accepted CYCLE card on, where no line was refused
abbrev pub network_in : Deck → Option Network
network_in (Open count (s.Making form part net)) = Some net
network_in (Complete number net) = Some net
network_in _ = None

-- the deck of the lines taken, and whether the next may be taken
pub record ReaderValue : Type 0 where
  pub deck : Deck
  pub live : Bool

-- the answer to a line after which the deck is this one; out of memory only where the line has no code
abbrev pub Answers : Deck → Result Progress CardStop → Type 0
Answers deck (Ok progress.More) = IsTrue (is_open deck)
Answers deck (Ok progress.Complete) = IsTrue (is_complete deck)
Answers deck (Err (stop.Refused card code)) = deck ≡ Refused card code
Answers deck (Err stop.Memory) = IsTrue (not (is_some (code_of deck)))

-- whether a reader is live after this answer
abbrev pub goes_on : Result Progress CardStop → Bool
goes_on (Ok progress.More) = true
goes_on _ = false

-- whether a reader may finish: the next line may be taken, or END was accepted
abbrev pub may_finish : ReaderValue → Bool
may_finish reader = reader.live || is_complete reader.deck

-- the network of a deck; its refusal where it is refused, and code 21 after its last line where it is open
abbrev pub finished : Deck → Result Network CardStop
finished (Complete number net) = Ok net
finished (Refused number code) = Err (stop.Refused number code)
finished (Open count state) = Err (stop.Refused (count + 1) codes.NoEnd)

-- the bytes after so many lines
abbrev pub after_lines : ℕ → List ℕ → List ℕ
after_lines zero bytes = bytes
after_lines (suc count) bytes = after_lines count (after_first_line bytes)

-- the cut of a deck, with so many bytes up to its end; or its refusal
abbrev pub cut_at : Deck → ℕ → Result Cut CardStop
cut_at made rest =
    result_map_both (λ net. record { net = net; line = line_count made; rest = rest }) (λ e. e) (finished made)

-- the cut of bytes: the deck of their lines, and the bytes up to and with the end of its last line
abbrev pub cut_of : List ℕ → Result Cut CardStop
cut_of bytes =
    let made = deck (lines bytes) in cut_at made (length bytes - length (after_lines (line_count made) bytes))

-- a refusal is that of the cut; out of memory may come at any time
abbrev pub RefusesDeck : List ℕ → CardStop → Type 0
RefusesDeck bytes (stop.Refused card code) = cut_of bytes ≡ Err (stop.Refused card code)
RefusesDeck bytes stop.Memory = Unit {0}
