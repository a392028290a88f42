-- A search of the places that are still to be looked at, and the climb after it.
use Rattle.std.proofs.Common.{◌≡◌, ℕ, zero, suc, ◌+◌, ◌-◌, ◌%◌, Bool, true, false, ◌∷◌, ◌++◌, refl, ap, sym, ◌∙◌, arith}
use Rattle.std.proofs.Common.{Option, Some, None, nat_lt, nat_le, if◌then◌else◌}
use mathlib.Core.Path.{fun_ext}
use Rattle.std.specs.Option.{option_map}
use Rattle.std.proofs.Math.Nat.{mod-add-mod, mod-mod}
use Rattle.std.proofs.lemmas.Bool.{cond-true, cond-false}
use Rattle.std.proofs.lemmas.Bool.Decides.{nat_tests}
use Rattle.transyt_net.specs.Parts.{Network}
use Rattle.transyt_moves.specs.Moves.{move_count}
use Rattle.transyt_sweep.specs.Climb.{Climb, Look, after_search, stepped, ended, moved, lowers, least, looks_from, climb}
use Rattle.transyt_climb.specs.Way.{onward}

-- a climb with a look before it
abbrev pub looked : Look → Climb → Climb
looked l c = record { steps = c.steps; local = c.local; looks = l ∷ c.looks; net = c.net }

-- looks go round the list
pub looks_mod : (net : Network) (k n : ℕ) → looks_from net k n ≡ looks_from net (k % move_count net) n
looks_mod net k zero = refl
looks_mod net k (suc n) =
    let head : k % move_count net ≡ (k % move_count net) % move_count net = sym (mod-mod k (move_count net)) in
    let next : (k % move_count net + 1) % move_count net ≡ (k + 1) % move_count net =
    mod-add-mod k (move_count net) 1 in
    let tail : looks_from net (k + 1) n ≡ looks_from net (k % move_count net + 1) n =
    looks_mod net (k + 1) n
    ∙ sym (ap (λ p. looks_from net p n) next)
    ∙ sym (looks_mod net (k % move_count net + 1) n) in
    ap (λ p. record { net = net; place = p } ∷ looks_from net (k + 1) n) head
    ∙ ap (λ ls. record { net = net; place = (k % move_count net) % move_count net } ∷ ls) tail

-- where no place is left, no move lowers
pub onward_local : (net : Network) (k left : ℕ) → onward net k 0 left ≡ ended true net k 0
onward_local net k left = cond-true (nat_le 0 left) _ _ (grind (arith, nat_tests))

no_look : (net : Network) (k n : ℕ) (found : Option ℕ)
    → after_search climb net k (suc n) 0 found ≡ ended false net k 0
no_look net k n None = cond-false (nat_le (suc n) 0) _ _ (grind (arith, nat_tests))
no_look net k n (Some r) = cond-false (nat_lt r 0) _ _ (grind (arith, nat_tests))

-- where no look is left, the budget is used up
pub onward_budget : (net : Network) (k n : ℕ) → onward net k (suc n) 0 ≡ ended false net k 0
onward_budget net k n = no_look net k n (least (λ r. lowers net ((k + r) % move_count net)) (suc n))

-- a choice between two values of a function is its value of the choice
choice : {A B : Type 0} (f : A → B) (b c : Bool) (x y : B) (u v : A) → b ≡ c → x ≡ f u → y ≡ f v
    → (if b then x else y) ≡ f (if c then u else v)
choice f b true x y u v same one two = ap (λ t. if t then x else y) same ∙ one
choice f b false x y u v same one two = ap (λ t. if t then x else y) same ∙ two

-- the first look before the others, where no step is taken
ended_more : (local : Bool) (net : Network) (k n : ℕ)
    → ended local net k (suc n)
    ≡ looked (record { net = net; place = k % move_count net }) (ended local net ((k + 1) % move_count net) n)
ended_more local net k n =
    ap (λ ls. record (ended local net k (suc n)) { looks = record { net = net; place = k % move_count net } ∷ ls })
    (looks_mod net (k + 1) n)

-- and where one is
stepped_more : (net : Network) (k n place : ℕ) (c : Climb)
    → stepped net k (suc n) place c
    ≡ looked (record { net = net; place = k % move_count net }) (stepped net ((k + 1) % move_count net) n place c)
stepped_more net k n place c =
    ap (λ ls. record (stepped net k (suc n) place c) {
      looks = record { net = net; place = k % move_count net } ∷ (ls ++ c.looks);
    }) (looks_mod net (k + 1) n)

-- the place after k and r more, round the list
place_on : (n k r : ℕ) → (k + (r + 1)) % n ≡ ((k + 1) % n + r) % n
place_on n k r = let sum : k + (r + 1) ≡ k + 1 + r = omega arith in ap (λ x. x % n) sum ∙ sym (mod-add-mod (k + 1) n r)

-- the search after a place that was passed
search_on : (net : Network) (k n left : ℕ) (found : Option ℕ)
    → after_search climb net k (suc n) (suc left) (option_map (λ r. r + 1) found)
    ≡ looked (record { net = net; place = k % move_count net })
    (after_search climb net ((k + 1) % move_count net) n left found)
search_on net k n left None =
    choice (looked (record { net = net; place = k % move_count net })) (nat_le (suc n) (suc left)) (nat_le n left)
    _ _ _ _ (grind (arith, nat_tests)) (ended_more true net k n) (ended_more false net k left)
search_on net k n left (Some r) =
    let place = place_on (move_count net) k r in
    let less : suc left - (r + 1 + 1) ≡ left - (r + 1) = omega arith in
    let more : r + 1 + 1 ≡ suc (r + 1) = omega arith in
    choice (looked (record { net = net; place = k % move_count net })) (nat_lt (r + 1) (suc left)) (nat_lt r left)
    _ _ _ _ (grind (arith, nat_tests))
    ((λ i. stepped net k (more i) (place i) (climb (moved net (place i)) (place i) (less i)))
    ∙ stepped_more net k (r + 1) _ _)
    (ended_more false net k left)

-- a place whose move doesn't lower is passed
pub onward_passes : (net : Network) (k n left : ℕ) → lowers net (k % move_count net) ≡ false
    → onward net k (suc n) (suc left)
    ≡ looked (record { net = net; place = k % move_count net }) (onward net ((k + 1) % move_count net) n left)
onward_passes net k n left passed =
    let none_more : k + 0 ≡ k = omega arith in
    let here : lowers net ((k + 0) % move_count net) ≡ false =
    ap (λ x. lowers net (x % move_count net)) none_more ∙ passed in
    let same : (λ r. lowers net ((k + (r + 1)) % move_count net))
    ≡ (λ r. lowers net (((k + 1) % move_count net + r) % move_count net)) =
    fun_ext (λ r. ap (lowers net) (place_on (move_count net) k r)) in
    (λ i. after_search climb net k (suc n) (suc left)
    (if here i then Some 0 else option_map (λ r. r + 1) (least (same i) n)))
    ∙ search_on net k n left (least (λ r. lowers net (((k + 1) % move_count net + r) % move_count net)) n)

-- a place whose move lowers is a step
pub onward_takes : (net : Network) (k n left : ℕ) → lowers net (k % move_count net) ≡ true
    → onward net k (suc n) (suc left)
    ≡ stepped net k 1 (k % move_count net) (climb (moved net (k % move_count net)) (k % move_count net) left)
onward_takes net k n left lower =
    let none_more : k + 0 ≡ k = omega arith in
    let less : suc left - 1 ≡ left = omega arith in
    let here : lowers net ((k + 0) % move_count net) ≡ true =
    ap (λ x. lowers net (x % move_count net)) none_more ∙ lower in
    ap (after_search climb net k (suc n) (suc left)) (cond-true (lowers net ((k + 0) % move_count net)) _ _ here)
    ∙ cond-true (nat_lt 0 (suc left)) _ _ (grind (arith, nat_tests))
    ∙ (λ i. let place = none_more i % move_count net in stepped net k 1 place (climb (moved net place) place (less i)))
