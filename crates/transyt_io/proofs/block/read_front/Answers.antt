-- What was read into a front of the bytes is a front of all.
use Rattle.std.proofs.Common.{◌≤◌, ◌++◌, ℕ, List, Option, Result, Ok, Err, IfOk, length, sym, subst}
use Rattle.std.proofs.lemmas.List.{take-append-le}
use Rattle.transyt_io.specs.Streams.{Reads, Takes}
use Rattle.transyt_io.proofs.block.read_front.Goals as goal

reads_more : {E : Type 0} (left left_new : Option (List ℕ)) (result : Result ℕ E) (buf more : List ℕ)
    → IfOk result (λ n. n ≤ length buf) → Reads left left_new result buf → Reads left left_new result (buf ++ more)
reads_more left left_new (Ok n) buf more bound reads =
    (subst (λ (xs : List ℕ). Takes left left_new xs) (sym (take-append-le n buf more bound)) reads.0, reads.1)
reads_more left left_new (Err e) buf more bound reads = reads

pub returns-clause-bytes : goal.returns-clause-bytes
returns-clause-bytes g c = reads_more _ _ _ _ _ c.read.ensures.bound c.read.ensures.bytes
