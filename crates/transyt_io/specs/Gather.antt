-- A line that is gathered from the pieces that a source gives; no public clause cites it.
use Rattle.std.specs.Prelude.{◌≡◌, ◌<◌, ℕ, ◌++◌, List, [], ◌∷◌, Bool, true, false, length, take, Option, IfSome}
use Rattle.transyt_io.specs.declared.reader.ReadStop.{ReadStop}
use Rattle.transyt_io.specs.declared.reader.ReadStop.TheVariants.{Fault, TooLong}
use Rattle.transyt_io.specs.Lines.{lines_by, has_end}
use Rattle.transyt_io.specs.Streams.{Takes}

-- raw has no line end, and its first 4,098 bytes are kept: they tell which line it is
pub record Gathers (kept raw : List ℕ) : Type 0 where
  pub first : kept ≡ take 4098 raw
  pub open_yet : has_end raw ≡ false

-- the first line of these bytes, whatever comes after them, and the rest of them; nothing comes after the last bytes
pub record FirstLine (bytes line rest : List ℕ) (are_last : Bool) : Type 0 where
  pub less : length rest < length bytes
  pub cut_off : (keep : Bool) (ys : List ℕ) → (are_last ≡ true → (keep ≡ true) × (ys ≡ []))
      → lines_by keep (bytes ++ ys) ≡ line ∷ lines_by keep (rest ++ ys)

-- the line of which these bytes are kept ends in the piece, and the rest of the piece comes after it
abbrev pub EndsLine : List ℕ → List ℕ → List ℕ → List ℕ → Type 0
EndsLine kept line piece rest = (raw : List ℕ) → Gathers kept raw → FirstLine (raw ++ piece) line rest false

-- the line of which these bytes are kept does not end in the piece
abbrev pub GoesOn : List ℕ → List ℕ → List ℕ → Type 0
GoesOn kept kept_new piece = (raw : List ℕ) → Gathers kept raw → Gathers kept_new (raw ++ piece)

-- a source gave these bytes in its last read
pub record Gives (left left_new : Option (List ℕ)) (last_new : Option ℕ) (piece : List ℕ) : Type 0 where
  pub takes : Takes left left_new piece
  pub last_read : IfSome last_new (λ n. n ≡ length piece)

-- a read after so many bytes failed, or gave one byte too many
abbrev pub StopsAfter : ℕ → List ℕ → ReadStop → Type 0
StopsAfter taken piece Fault = piece ≡ []
StopsAfter taken piece TooLong = (taken ≡ 4194304) × (length piece ≡ 1)
