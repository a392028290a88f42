-- Texts that are written one after another.
use Rattle.std.proofs.Common.{◌≡◌, ℕ, ◌≤◌, List, [], ◌++◌, Option, Result, Ok, Err}
use Rattle.std.proofs.Common.{ap, subst, arith, inl, inr}
use Rattle.std.proofs.lemmas.List.{append-nil}
use Rattle.std.specs.Result.{IsErr}
use Rattle.transyt_io.specs.Streams.{Adds, AddsFront, Rose}
use Rattle.transyt_io.proofs.Told.{adds_both, adds_further, front_longer}
use Rattle.transyt_io.specs.Prints.{Prints}

-- a count that rose from a later value rose from an earlier one
rose_from : (a b c : ℕ) → a ≤ b → Rose b c → Rose a c
rose_from a b c later (inl above) = inl (omega arith)
rose_from a b c later (inr last) = inr last

-- one text is written, and then another as far as it goes
pub prints_both : {T E : Type 0} {v : T} {a b c : Option (List ℕ)} {f g h : ℕ} (r : Result T E) (xs ys : List ℕ)
    → Prints {T = T} {E = E} a b f g (Ok v) xs → Prints {T = T} {E = E} b c g h r ys
    → Prints {T = T} {E = E} a c f h r (xs ++ ys)
prints_both (Ok u) xs ys first second = record {
  ok = adds_both _ _ _ xs ys first.ok second.ok;
  err = tt;
  cause = record { later = omega (arith, first.cause.later, second.cause.later); failed = tt };
}
prints_both (Err e) xs ys first second = record {
  ok = tt;
  err = adds_further _ _ _ xs ys (xs ++ ys) first.ok second.err [] (ap (λ l. xs ++ l) (append-nil ys));
  cause = record {
    later = omega (arith, first.cause.later, second.cause.later);
    failed = rose_from _ _ _ first.cause.later second.cause.failed;
  };
}

-- a text that broke off is a front of a longer one
pub prints_front : {T E : Type 0} {e : E} {a b : Option (List ℕ)} {f g : ℕ} (r : Result T E) (xs ys : List ℕ) → IsErr r
    → Prints {T = T} {E = E} a b f g (Err e) xs → Prints {T = T} {E = E} a b f g r (xs ++ ys)
prints_front (Ok v) xs ys failed first = absurd (cc)
prints_front (Err d) xs ys failed first = record {
  ok = tt;
  err = front_longer _ _ xs ys first.err;
  cause = record { later = first.cause.later; failed = first.cause.failed };
}

-- the same text, said otherwise
pub adds_same : (a b : Option (List ℕ)) (xs ys : List ℕ) → xs ≡ ys → Adds a b xs → Adds a b ys
adds_same a b xs ys same h = subst (λ (text : List ℕ). Adds a b text) same h

pub prints_same : {T E : Type 0} (a b : Option (List ℕ)) {f g : ℕ} (r : Result T E) (xs ys : List ℕ)
    → Prints {T = T} {E = E} a b f g r xs → xs ≡ ys → Prints {T = T} {E = E} a b f g r ys
prints_same a b (Ok v) xs ys first same = record {
  ok = adds_same a b xs ys same first.ok;
  err = tt;
  cause = first.cause;
}
prints_same a b (Err e) xs ys first same = record {
  ok = tt;
  err = subst (λ (text : List ℕ). AddsFront a b text) same first.err;
  cause = first.cause;
}
