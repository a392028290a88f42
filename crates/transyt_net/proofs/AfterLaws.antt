-- An element that stands after others is found, and written to, by its place and by its number.
use Rattle.std.proofs.Common.{◌≡◌, ℕ, ◌-◌, false, List, [], ◌∷◌, ◌++◌, length, map, Some, slice_get, nat_eq, refl, ap}
use Rattle.std.proofs.Common.{arith, length-append}
use Rattle.std.proofs.lemmas.Bool.{eq-eqb, or_parts}
use Rattle.transyt_net.specs.Valid.{is_among, numbered, on_numbered, on_place}

-- the place of the last
pub last_is : {A : Type 0} (done : List A) (x : A) → length (done ++ x ∷ []) - 1 ≡ length done
last_is done x = omega (arith, length-append done (x ∷ []))

-- the last by its place
pub get_last : {A : Type 0} (done : List A) (x : A) → slice_get (done ++ x ∷ []) (length done) ≡ Some x
get_last [] x = refl
get_last (y ∷ done) x = get_last done x

-- a write to the last by its place
pub on_last : {A : Type 0} (f : A → A) (done : List A) (x : A)
    → on_place f (done ++ x ∷ []) (length done) ≡ done ++ f x ∷ []
on_last f [] x = refl
on_last f (y ∷ done) x = ap (λ l. y ∷ l) (on_last f done x)

-- an element by its number, where none before has it
pub numbered_after : {A : Type 0} (key : A → ℕ) (xs ys : List A) (x : A) → is_among (map key xs) (key x) ≡ false
    → numbered key (xs ++ x ∷ ys) (key x) ≡ Some x
numbered_after key [] ys x h = rw (eq-eqb (key x) (key x) refl)
numbered_after key (y ∷ xs) ys x h =
    let parts = or_parts (nat_eq (key x) (key y)) (is_among (map key xs) (key x)) h in
    rw parts.0 (numbered_after key xs ys x parts.1)

-- a write to an element by its number, where none before has it
pub on_numbered_after : {A : Type 0} (key : A → ℕ) (g : A → A) (xs ys : List A) (x : A)
    → is_among (map key xs) (key x) ≡ false → on_numbered key g (xs ++ x ∷ ys) (key x) ≡ xs ++ g x ∷ ys
on_numbered_after key g [] ys x h = rw (eq-eqb (key x) (key x) refl)
on_numbered_after key g (y ∷ xs) ys x h =
    let parts = or_parts (nat_eq (key x) (key y)) (is_among (map key xs) (key x)) h in
    rw (parts.0, on_numbered_after key g xs ys x parts.1)
