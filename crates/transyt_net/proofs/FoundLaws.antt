-- The element of a number that is there, before and after a write to it.
use Rattle.std.proofs.Common.{◌≡◌, ℕ, ◌<◌, true, List, [], ◌∷◌, length, map, zero, suc}
use Rattle.std.proofs.Common.{Option, Some, None, refl, sym, ap, ◌∙◌, arith, nat_eq}
use Rattle.std.proofs.Common.{get_or, All}
use Rattle.std.proofs.lemmas.Bool.Decides.{nat_tests}
use Rattle.transyt_parts.specs.declared.node.Stage.{Stage}
use Rattle.transyt_parts.specs.declared.link.Feed.{Feed}
use Rattle.transyt_parts.specs.Parts.{NodeValue}
use Rattle.transyt_net.specs.Valid.{is_among, numbered, on_numbered, on_place, is_fed, feeders, node_number, IsNode}
use Rattle.transyt_net.specs.Edits.{change_to}
use Rattle.transyt_net.proofs.PlaceLaws.{list_any_map, keys_kept}
use Rattle.transyt_net.proofs.EditLaws.{all_numbered}

found_none : {A : Type 0} (key : A → ℕ) (xs : List A) (k : ℕ) → is_among (map key xs) k ≡ true → numbered key xs k ≡ None → ⊥
found_none key [] k h none = absurd (cc)
found_none key (x ∷ xs) k h none = grind (arith, nat_tests, found_none key xs k)

-- a number that is there has its element
pub some_numbered : {A : Type 0} (key : A → ℕ) (xs : List A) (k : ℕ) → is_among (map key xs) k ≡ true
    → (x : A) × (numbered key xs k ≡ Some x)
some_numbered {A} key xs k h = by (numbered key xs k) refl
  where
    by : (o : Option A) → numbered key xs k ≡ o → (x : A) × (numbered key xs k ≡ Some x)
    by None none = absurd (found_none key xs k h none)
    by (Some x) at = (x, at)

-- the element of a number after a write to it
pub numbered_after : {A : Type 0} (key : A → ℕ) (f : A → A) (same : (x : A) → key (f x) ≡ key x) (xs : List A) (k : ℕ)
    (y : A)
    → numbered key xs k ≡ Some y → numbered key (on_numbered key f xs k) k ≡ Some (f y)
numbered_after key f same [] k y at = absurd (cc)
numbered_after key f same (x ∷ xs) k y at = grind (arith, nat_tests, same x, numbered_after key f same xs k y)

-- the element of a number has it
pub numbered_key : {A : Type 0} (key : A → ℕ) (xs : List A) (k : ℕ) (y : A) → numbered key xs k ≡ Some y → key y ≡ k
numbered_key key [] k y at = absurd (cc)
numbered_key key (x ∷ xs) k y at = grind (arith, nat_tests, numbered_key key xs k y)

-- a stage with its change set has that change
pub changed_at : (ss : List Stage) (p change : ℕ) (d : Stage) → p < length ss
    → (get_or (on_place (change_to change) ss p) p d).change ≡ change
changed_at [] p change d h = absurd (omega arith)
changed_at (s ∷ ss) zero change d h = refl
changed_at (s ∷ ss) (suc p) change d h = changed_at ss p change d (omega arith)

-- a link is fed by the feeders of its feeds
pub fed_is : (feeds : List Feed) (feeder : ℕ) → is_fed feeds feeder ≡ is_among (feeders feeds) feeder
fed_is feeds feeder = sym (list_any_map (λ f. f.feeder) (nat_eq feeder) feeds)

-- the one of a number that is there, and what holds of all after a write to it
pub written_is : {A : Type 0} (P : A → Type 0) (key : A → ℕ) (f : A → A) (same : (x : A) → key (f x) ≡ key x) (xs : List A)
    (k : ℕ)
    → is_among (map key xs) k ≡ true → All P (on_numbered key f xs k) → (x : A) × (numbered key xs k ≡ Some x) × P (f x)
written_is P key f same xs k there all =
    let at = some_numbered key xs k there in
    (at.0, at.1, all_numbered P key (on_numbered key f xs k) k (f at.0) all (numbered_after key f same xs k at.0 at.1))

-- a number that is there is there after a write
pub still : {A : Type 0} (key : A → ℕ) (f : A → A) (same : (x : A) → key (f x) ≡ key x) (xs : List A) (k j : ℕ)
    → is_among (map key xs) j ≡ true → is_among (map key (on_numbered key f xs k)) j ≡ true
still key f same xs k j there = ap (λ ks. is_among ks j) (keys_kept key f same xs k) ∙ there

-- a node that is found keeps to its ranges
pub node_good : (steps : ℕ) (nodes : List NodeValue) (k : ℕ) (n : NodeValue) → All (IsNode steps) nodes
    → numbered node_number nodes k ≡ Some n → IsNode steps n
node_good steps nodes k n all at = all_numbered (IsNode steps) node_number nodes k n all at
