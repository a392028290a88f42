-- The bytes that sources and sinks tell, call after call.
use Rattle.std.proofs.Common.{◌≡◌, ℕ, List, [], ◌++◌, Option, None, Some, Result, Ok, Err, OnErr, refl, sym, ◌∙◌, ap}
use Rattle.std.proofs.Common.{append_assoc, option_map}
use Rattle.std.proofs.lemmas.List.{append-nil}
use Rattle.transyt_io.specs.Streams.{Takes, Adds, AddsFront}

-- no read takes nothing
pub takes_nothing : (told : Option (List ℕ)) → Takes told told []
takes_nothing None = refl
takes_nothing (Some bytes) = refl

-- the bytes that two reads took, one after the other
pub takes_both : (a b c : Option (List ℕ)) (xs ys : List ℕ) → Takes a b xs → Takes b c ys → Takes a c (xs ++ ys)
takes_both a b None xs ys h k = h ∙ ap (option_map (λ rest. xs ++ rest)) k
takes_both a b (Some rest) xs ys h k =
    h ∙ ap (option_map (λ rest. xs ++ rest)) k ∙ ap Some (sym (append_assoc xs ys rest))

-- no write adds nothing
pub adds_nothing : (told : Option (List ℕ)) → Adds told told []
adds_nothing None = refl
adds_nothing (Some bytes) = ap Some (sym (append-nil bytes))

-- the bytes that two writes added, one after the other
pub adds_both : (a b c : Option (List ℕ)) (xs ys : List ℕ) → Adds a b xs → Adds b c ys → Adds a c (xs ++ ys)
adds_both None b c xs ys h k = k ∙ ap (option_map (λ before. before ++ ys)) h
adds_both (Some front) b c xs ys h k =
    k ∙ ap (option_map (λ before. before ++ ys)) h ∙ ap Some (append_assoc front xs ys)

-- the bytes added are a front of all that they begin
pub adds_so_far : (a b : Option (List ℕ)) (out rest all : List ℕ) → Adds a b out → out ++ rest ≡ all → AddsFront a b all
adds_so_far a b out rest all h is = record { front = out; back = rest; whole = is; adds = h }

-- a front of some bytes is one of more
pub front_of_more : (front back all more : List ℕ) → front ++ back ≡ all → front ++ (back ++ more) ≡ all ++ more
front_of_more front back all more is = sym (append_assoc front back more) ∙ ap (λ (xs : List ℕ). xs ++ more) is

-- some first bytes of a text are some of a longer one
pub front_longer : (a b : Option (List ℕ)) (text more : List ℕ) → AddsFront a b text → AddsFront a b (text ++ more)
front_longer a b text more h = record {
  front = h.front;
  back = h.back ++ more;
  whole = front_of_more h.front h.back text more h.whole;
  adds = h.adds;
}

-- some first bytes after what was added
pub adds_further : (a b c : Option (List ℕ)) (out text all : List ℕ) → Adds a b out → AddsFront b c text
    → (more : List ℕ) → out ++ (text ++ more) ≡ all → AddsFront a c all
adds_further a b c out text all h k more is = record {
  front = out ++ k.front;
  back = k.back ++ more;
  whole = append_assoc out k.front (k.back ++ more)
      ∙ ap (λ (xs : List ℕ). out ++ xs) (front_of_more k.front k.back text more k.whole) ∙ is;
  adds = adds_both a b c out k.front h k.adds;
}

-- a fact that needs no result is one of each error
pub on_err : {T E X : Type 0} → (r : Result T E) → X → OnErr r X
on_err (Ok v) x = tt
on_err (Err e) x = x
