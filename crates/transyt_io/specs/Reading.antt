-- A line reader: the bytes that it took, the lines that it handed out, and the effect of `next` on both.
use Rattle.std.specs.Prelude.{ℕ, List, Bool, Option, ◌≡◌, ◌≤◌, ◌⊎◌, ◌+◌, ◌-◌, ◌*◌, ◌++◌, [], ◌∷◌, true, false, Some}
use Rattle.std.specs.Prelude.{None, Result, Ok, IfSome, MatchResult, length, take}
use Rattle.transyt_io.specs.declared.reader.Line.{Line}
use Rattle.transyt_io.specs.declared.reader.Line.TheVariants.{Text, End}
use Rattle.transyt_io.specs.declared.reader.ReadStop.{ReadStop}
use Rattle.transyt_io.specs.declared.reader.ReadStop.TheVariants.{Fault, TooLong}
use Rattle.transyt_io.specs.Lines.{lines_by, lines, whole}
use Rattle.transyt_io.specs.Streams.{Takes, IsAtEnd}

-- a reader of lines: how many bytes a live one took, and those of them that no line handed out has; whether the source
-- was read to its end, whether `next` may be called, and the line that the last call of `next` handed out
pub record Reading : Type 0 where
  pub taken : ℕ
  pub held : List ℕ
  pub ended : Bool
  pub live : Bool
  pub line : Option (List ℕ)

-- The reader took these bytes and handed out these lines: before the lines of what it holds and of whatever comes
-- after, they are the lines of all. That holds of the whole lines and of all lines; after the end, of all lines.
pub record HasRead (reading : Reading) (left : Option (List ℕ)) (taken : List ℕ) (given : List (List ℕ)) : Type 0 where
  pub count : reading.taken ≡ length taken
  pub to_come : (keep : Bool) (ys : List ℕ) → (reading.ended ≡ true → (keep ≡ true) × (ys ≡ []))
      → lines_by keep (taken ++ ys) ≡ given ++ lines_by keep (reading.held ++ ys)
  pub at_end : reading.ended ≡ true → IsAtEnd left
  pub few : length given + length reading.held ≤ length taken

-- the meaning of an answer for all bytes taken and the lines handed out before this call: one more was handed out, or
-- these are all
abbrev pub AnswerSays : Reading → Option (List ℕ) → List ℕ → List (List ℕ) → Line → Type 0
AnswerSays reading left taken given Text =
    (line : List ℕ) × (reading.line ≡ Some line) × HasRead reading left taken (given ++ line ∷ [])
AnswerSays reading left taken given End = (given ≡ lines taken) × IsAtEnd left × (length taken ≤ 4194304)

-- the meaning of a stop for them: all whole lines were handed out, at TooLong those of the first 4,194,304 bytes
abbrev pub StopSays : List ℕ → List (List ℕ) → ReadStop → Type 0
StopSays taken given Fault = (given ≡ whole taken) × (length taken ≤ 4194304)
StopSays taken given TooLong = (length taken ≡ 4194305) × (given ≡ whole (take 4194304 taken))

-- The bytes `front` were taken, and then `back` by the last read. With no read nothing was taken; else all whole lines
-- were handed out before the last one.
pub record ReadsLine (old new : Reading) (left left_new : Option (List ℕ)) (last last_new : Option ℕ)
    (result : Result Line ReadStop) : Type 0 where
  pub front : List ℕ
  pub back : List ℕ
  pub takes : Takes left left_new (front ++ back)
  pub reads : ((front ≡ []) × (back ≡ []) × (last_new ≡ last)) ⊎ (IfSome last_new (λ n. n ≡ length back)
      × ((taken : List ℕ) (given : List (List ℕ)) → HasRead old left taken given → given ≡ whole (taken ++ front)))
  pub says : (taken : List ℕ) (given : List (List ℕ)) → HasRead old left taken given → MatchResult result
      (AnswerSays new left_new (taken ++ (front ++ back)) given) (StopSays (taken ++ (front ++ back)) given)

-- the most lines that may still be handed out: two for each byte that may come, and one for each that is held
abbrev pub most_lines_left : Reading → ℕ
most_lines_left reading = 2 * (4194305 - reading.taken) + length reading.held

-- a reader that has taken nothing
abbrev pub new_reading : Reading
new_reading = record { taken = 0; held = []; ended = false; live = true; line = None }

-- the answer is a line
abbrev pub is_text : Result Line ReadStop → Bool
is_text (Ok Text) = true
is_text _ = false
