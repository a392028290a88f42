-- A keyword of the table of cards takes at most 17 numbers, and with so many as it takes its card can be added.
use Rattle.std.proofs.Common.{◌≡◌, ℕ, ◌≤◌, ◌-◌, Bool, true, false, List, [], ◌∷◌, length, drop, Option, Some, IfSome}
use Rattle.std.proofs.Common.{if◌then◌else◌, ◌==◌, bytes_eq, arith, sym, subst}
use Rattle.std.proofs.lemmas.Bool.Decides.{nat_tests}
use Rattle.std.proofs.lemmas.List.{length-drop}
use Rattle.transyt_syntax.specs.Syntax.{Entry, is_count, named, with_numbers}
use Rattle.transyt_deck.specs.declared.card.Card.{Card}
use Rattle.transyt_deck.specs.Cards.{cards}
use Rattle.transyt_deck.specs.Adds.{CanAdd}

-- a fact of what each entry of a table says with these numbers
abbrev OfEach : {A : Type 0} → ((ℕ × ℕ) × A → Type 0) → List ℕ → List (Entry A) → Type 0
OfEach P ns [] = Unit {0}
OfEach P ns (e ∷ more) = P (e.counts, e.says ns) × OfEach P ns more

-- it holds of what a keyword finds, by the test of the first entry
of_first : {A : Type 0} (P : (ℕ × ℕ) × A → Type 0) (ns : List ℕ) (e : Entry A) (later : Option (Entry A)) (b : Bool)
    → P (e.counts, e.says ns) → IfSome (with_numbers ns later) P → IfSome (with_numbers ns (if b then Some e else later)) P
of_first P ns e later true here more = here
of_first P ns e later false here more = more

-- it holds of what a keyword finds
of_named : {A : Type 0} (P : (ℕ × ℕ) × A → Type 0) (ns : List ℕ) (table : List (Entry A)) (word : List ℕ)
    → OfEach P ns table → IfSome (with_numbers ns (named table word)) P
of_named P ns [] word each = tt
of_named P ns (e ∷ more) word each =
    of_first P ns e (named more word) (bytes_eq word e.word) each.0 (of_named P ns more word each.1)

-- one of two entries
of_either : {A : Type 0} (P : A → Type 0) (b : Bool) (x y : A) → P x → P y → P (if b then x else y)
of_either P true x y here there = here
of_either P false x y here there = there

-- how many numbers there are after the first ones
after : (low high front : ℕ) (ns : List ℕ) → front ≤ low → is_count (low, high) (length ns) ≡ true
    → (low - front ≤ length (drop front ns)) × (length (drop front ns) ≤ high - front)
after low high front ns less count = grind (arith, nat_tests, length-drop front ns)

-- a keyword that the deck can take with these numbers
abbrev pub IsRight : List ℕ → (ℕ × ℕ) × Card → Type 0
IsRight ns found = (found.0.1 ≤ 17) × (is_count found.0 (length ns) ≡ true → CanAdd found.1)

-- each keyword is
pub right : (form : ℕ) (word ns : List ℕ) (found : Option ((ℕ × ℕ) × Card))
    → found ≡ with_numbers ns (named (cards form) word) → IfSome found (IsRight ns)
right form word ns found is =
    subst (λ o. IfSome o (IsRight ns)) (sym is)
    (of_named (IsRight ns) ns (cards form) word (
      (omega arith, λ h. tt),
      (
        (omega arith, λ h. tt),
        (
          (omega arith, λ h. tt),
          (
            (omega arith, λ h. tt),
            (
              of_either {A = Entry Card} (λ e. IsRight ns (e.counts, e.says ns)) (form == 2) _ _
                  (omega arith, after 9 16 8 ns (omega arith)) (omega arith, after 7 14 6 ns (omega arith)),
              (
                (omega arith, λ h. tt),
                ((omega arith, λ h. tt), ((omega arith, after 2 17 1 ns (omega arith)), ((omega arith, λ h. tt), tt))),
              ),
            ),
          ),
        ),
      ),
    ))
