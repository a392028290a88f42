-- The two ends of a run: the source that it reads, and the sink that it writes.
use Rattle.std.specs.Prelude.{ℕ, List, Option}
use Rattle.transyt_io.specs.Streams.{Rose}
use Rattle.transyt_outcome.specs.declared.status.Status.{Status}
use Rattle.transyt_outcome.specs.declared.status.Status.TheVariants.{ReadFault, WriteFault}

-- the bytes that a source and a sink tell, with their counts of faults
pub record Ends : Type 0 where
  pub left : Option (List ℕ)
  pub last : Option ℕ
  pub reads : ℕ
  pub written : Option (List ℕ)
  pub writes : ℕ

-- the bytes that they tell, by the meanings of a source and of a sink
abbrev pub ends_of : {S K : Type 0} → (S → Option (List ℕ)) → (S → Option ℕ) → (S → ℕ) → (K → Option (List ℕ))
    → (K → ℕ) → S → K → Ends
ends_of left last reads written writes source sink = record {
  left = left source;
  last = last source;
  reads = reads source;
  written = written sink;
  writes = writes sink;
}

-- the count of faults that the status names rose
abbrev pub FaultRose : Ends → Ends → Status → Type 0
FaultRose old new ReadFault = Rose old.reads new.reads
FaultRose old new WriteFault = Rose old.writes new.writes
FaultRose old new _ = Unit {0}
