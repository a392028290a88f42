-- The effect of reads and writes on the bytes that a source or sink tells; the ends of std, and input that is taken whole.
use Rattle.std.specs.Prelude.{◌≡◌, ◌<◌, ◌≤◌, ◌⊎◌, ◌++◌, ℕ, List, [], Option, Result, IfSome, OnErr, MatchResult, take}
use Rattle.std.specs.Prelude.{option_map, length}
use Rattle.transyt_io.specs.declared.reader.ReadStop.{ReadStop}
use Rattle.transyt_io.specs.declared.reader.ReadStop.TheVariants.{Fault, TooLong}

-- no byte is left, where the source tells it
abbrev pub IsAtEnd : Option (List ℕ) → Type 0
IsAtEnd told = IfSome told (λ bytes. bytes ≡ [])

-- a source gave these bytes
abbrev pub Takes : Option (List ℕ) → Option (List ℕ) → List ℕ → Type 0
Takes old new bytes = old ≡ option_map (λ rest. bytes ++ rest) new

-- a sink took these bytes
abbrev pub Adds : Option (List ℕ) → Option (List ℕ) → List ℕ → Type 0
Adds old new bytes = new ≡ option_map (λ before. before ++ bytes) old

-- a sink took some first bytes of these
pub record AddsFront (old new : Option (List ℕ)) (bytes : List ℕ) : Type 0 where
  pub front : List ℕ
  pub back : List ℕ
  pub whole : front ++ back ≡ bytes
  pub adds : Adds old new front

-- a read gave the first n bytes of the buffer, none of them only at the end; one that failed took nothing
abbrev pub Reads : {E : Type 0} → Option (List ℕ) → Option (List ℕ) → Result ℕ E → List ℕ → Type 0
Reads old new result buf = MatchResult result (λ n. Takes old new (take n buf) × (n ≡ 0 → IsAtEnd new)) (λ _. new ≡ old)

-- the size of the last piece is that of this read, and 0 where it failed
abbrev pub TellsLast : {E : Type 0} → Option ℕ → Result ℕ E → Type 0
TellsLast last result = IfSome last (λ n. MatchResult result (λ m. n ≡ m) (λ _. n ≡ 0))

-- a write added the first n bytes of the piece; one that failed added nothing
abbrev pub Writes : {E : Type 0} → Option (List ℕ) → Option (List ℕ) → Result ℕ E → List ℕ → Type 0
Writes old new result piece = MatchResult result (λ n. Adds old new (take n piece)) (λ _. new ≡ old)

-- the last value of a count, where it stays
abbrev pub last_count : ℕ
last_count = 18446744073709551615

-- a count of faults rose: it is higher after than before, or at its last value
abbrev pub Rose : ℕ → ℕ → Type 0
Rose before after = (before < after) ⊎ (after ≡ last_count)

-- a count of faults does not fall, and rises where the call failed
pub record CountsFault {T E : Type 0} (before after : ℕ) (result : Result T E) : Type 0 where
  pub later : before ≤ after
  pub failed : OnErr result (Rose before after)

-- the view of an end of std: the bytes that a reader has left or a writer holds, where std told them when the end was
-- made; and how many calls failed
pub record StdEnd : Type 0 where
  pub told : Option (List ℕ)
  pub faults : ℕ

-- the meaning of a stop for the bytes taken
abbrev pub StopTakes : List ℕ → ReadStop → Type 0
StopTakes taken Fault = length taken ≤ 4194304
StopTakes taken TooLong = length taken ≡ 4194305

-- the source was read to its end, and these are the bytes that it gave; or a read stopped
pub record TakesAll (bytes : List ℕ) (left left_new : Option (List ℕ)) (result : Result Unit ReadStop) : Type 0 where
  pub taken : List ℕ
  pub takes : Takes left left_new taken
  pub says : MatchResult result (λ _. (bytes ≡ taken) × IsAtEnd left_new × (length taken ≤ 4194304)) (StopTakes taken)
