-- The effect on a sink of a call that writes a text.
use Rattle.std.specs.Prelude.{ℕ, ◌≤◌, List, Option, Result, OnOk, OnErr}
use Rattle.transyt_io.specs.Streams.{Adds, AddsFront, CountsFault}

-- The text was written whole, or a front of it where the call failed; and the count of faults, from `quiet` to `loud`,
-- did not fall, and rose where the call failed.
pub record Prints {T E : Type 0} (old new : Option (List ℕ)) (quiet loud : ℕ) (result : Result T E)
    (text : List ℕ) : Type 0 where
  pub ok : OnOk result (Adds old new text)
  pub err : OnErr result (AddsFront old new text)
  pub cause : CountsFault quiet loud result

-- The same of a sink before and after the call, by what it tells and its count of faults.
abbrev pub PrintsOn : {S T E : Type 0} → (S → Option (List ℕ)) → (S → ℕ) → S → S → Result T E → List ℕ → Type 0
PrintsOn written faults old new result text = Prints (written old) (written new) (faults old) (faults new) result text

-- A text was written whole, with no call that failed; invariants of loops cite it.
pub record Printed (old new : Option (List ℕ)) (quiet loud : ℕ) (text : List ℕ) : Type 0 where
  pub adds : Adds old new text
  pub later : quiet ≤ loud
