-- A read puts its bytes into the front of the block.
use Rattle.std.proofs.Common.{◌≡◌, ◌≤◌, ◌∙◌, ℕ, List, take, length, Vec, sym, ap, subst, arith, IfSome, Option}
use Rattle.std.proofs.lemmas.List.{length-take-le, with_items_is}
use Rattle.std.proofs.lemmas.Slice.{between_from_start}
use Rattle.std.specs.List.{between}
use Rattle.std.specs.Vec.{with_items}
use Rattle.transyt_io.specs.Gather.{Gives}
use Rattle.transyt_io.specs.Streams.{Takes}
use Rattle.transyt_io.proofs.block.Block.read.Goals as goal

-- a block into whose front n bytes were read holds them
gives_front : {Z : Type 0} {left left_new : Option (List ℕ)} {last_new : Option ℕ} (v : Vec ℕ Z)
    (bytes : List ℕ) (n : ℕ) → length bytes ≡ v.len → n ≤ length bytes → Takes left left_new (take n bytes)
    → IfSome last_new (λ m. m ≡ n) → Gives left left_new last_new (between 0 n (with_items v bytes).items)
gives_front {left = left} {left_new = left_new} {last_new = last_new} v bytes n full within takes last =
    let first : between 0 n (with_items v bytes).items ≡ take n bytes =
    ap (between 0 n) (with_items_is v bytes full) ∙ between_from_start bytes n in
    subst (λ (xs : List ℕ). Gives left left_new last_new xs) (sym first) (record {
      takes = takes;
      last_read = subst (λ (k : ℕ). IfSome last_new (λ m. m ≡ k)) (sym (length-take-le n bytes within)) last;
    })

-- the bytes held are those that the source gave
pub returns-then-taken-eq-MOST-clause-gives : goal.returns-then-taken-eq-MOST-clause-gives
returns-then-taken-eq-MOST-clause-gives g c =
    let full = c.read_front.auto.bytes ∙ c.deref_mut.ensures.len in
    gives_front c.self.inside.bytes c.read_front.new.bytes c.in-Ok.n full (omega (arith, full, c.in-Ok.ensures.bound))
    c.in-Ok.ensures.bytes.0 c.in-Ok.ensures.last

pub returns-clause-gives : goal.returns-clause-gives
returns-clause-gives g c =
    let full = c.read_front.auto.bytes ∙ c.deref_mut.ensures.len in
    gives_front c.self.inside.bytes c.read_front.new.bytes c.in-Ok.n full (omega (arith, full, c.in-Ok.ensures.bound))
    c.in-Ok.ensures.bytes.0 c.in-Ok.ensures.last
