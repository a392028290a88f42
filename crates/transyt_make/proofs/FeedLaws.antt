-- One feed more has no fault.
use Rattle.std.proofs.Common.{◌≡◌, ℕ, ◌<◌, true, false, List, [], ◌∷◌, ◌++◌, length, map, refl, ap, ◌∙◌}
use Rattle.std.proofs.Common.{arith, nat_eq, nat_le, Option, Some, None, is_some, inl, inr}
use Rattle.std.proofs.lemmas.Bool.{cases_Bool, and_from, or_from}
use Rattle.std.proofs.lemmas.Bool.Decides.{nat_tests}
use Rattle.std.specs.Option.{option_map}
use Rattle.transyt_parts.specs.declared.link.Feed.{Feed}
use Rattle.transyt_parts.specs.Parts.{LinkValue}
use Rattle.transyt_parts.specs.Valid.{link_number, is_fed, feed_in_range}
use Rattle.transyt_parts.specs.Made.{add_feed}
use Rattle.transyt_net.specs.Parts.{Network, link_in}
use Rattle.transyt_net.specs.Valid.{is_among, link_numbers, numbered, on_numbered, feeds_at}
use Rattle.transyt_net.specs.Faults.{feed_fault, with_feed, are_links}
use Rattle.transyt_net.proofs.AfterLaws.{on_numbered_after}
use Rattle.transyt_net.proofs.PlaceLaws.{keys_kept}

-- a new feed has no fault
pub feed_free : (net : Network) (link : ℕ) (f : Feed) (fs : List Feed) → feeds_at net.links link ≡ fs
    → is_fed fs f.feeder ≡ false → is_among (link_numbers net.links) link ≡ true
    → is_among (link_numbers net.links) f.feeder ≡ true → feed_in_range f ≡ true → length fs < 8
    → feed_fault net link f ≡ None
feed_free net link f fs at fresh here there range few =
    let room : nat_le 8 (length fs) ≡ false = grind (arith, nat_tests) in
    let both : are_links net link f.feeder ≡ true = and_from _ _ here there in
    rw (at, fresh, both, range, room)

-- the part that a number names after a write to it
named_after : {A : Type 0} (key : A → ℕ) (g : A → A) (same : (x : A) → key (g x) ≡ key x) (xs : List A) (k : ℕ)
    → numbered key (on_numbered key g xs k) k ≡ option_map g (numbered key xs k)
named_after key g same [] k = refl
named_after key g same (x ∷ xs) k =
    elim (cases_Bool (nat_eq k (key x))) [
      | inl here ↦ rw here (rw (same x, here))
      | inr other ↦ rw (other, other, named_after key g same xs k)
    ]

-- a number is among the keys exactly where it names something
named_some : {A : Type 0} (key : A → ℕ) (xs : List A) (k : ℕ) → is_some (numbered key xs k) ≡ is_among (map key xs) k
named_some key [] k = refl
named_some key (x ∷ xs) k =
    elim (cases_Bool (nat_eq k (key x))) [
      | inl here ↦ rw here
      | inr other ↦ rw other (named_some key xs k)
    ]

-- the feeds of a link that is there, with one more
feeds_more : (o : Option LinkValue) (f : Feed) → is_some o ≡ true
    → (link_in (option_map (add_feed f) o)).feeds ≡ (link_in o).feeds ++ f ∷ []
feeds_more None f there = absurd (cc)
feeds_more (Some l) f there = refl

-- the feeds of a link after a new one
fed_once : (net : Network) (link : ℕ) (f : Feed) → is_among (link_numbers net.links) link ≡ true
    → feeds_at (with_feed net link f).links link ≡ feeds_at net.links link ++ f ∷ []
fed_once net link f there =
    ap (λ o. (link_in o).feeds) (named_after link_number (add_feed f) (λ _. refl) net.links link)
    ∙ feeds_more (numbered link_number net.links link) f (named_some link_number net.links link ∙ there)

-- a new feed keeps the numbers
pub numbers_after : (net : Network) (link : ℕ) (f : Feed)
    → link_numbers (with_feed net link f).links ≡ link_numbers net.links
numbers_after net link f = keys_kept link_number (add_feed f) (λ _. refl) net.links link

-- a second feed has no fault
pub second_free : (d0 d1 : Network) (link : ℕ) (a b : Feed) → d1 ≡ with_feed d0 link a → feeds_at d0.links link ≡ []
    → is_among (link_numbers d0.links) link ≡ true → is_among (link_numbers d0.links) b.feeder ≡ true
    → feed_in_range b ≡ true → nat_eq b.feeder a.feeder ≡ false → feed_fault d1 link b ≡ None
second_free d0 d1 link a b made unfed here there range apart =
    let kept = numbers_after d0 link a in
    rw made (feed_free (with_feed d0 link a) link b (a ∷ [])
    (fed_once d0 link a here ∙ ap (λ (fs : List Feed). fs ++ a ∷ []) unfed) (or_from _ _ apart refl)
    (ap (λ ns. is_among ns link) kept ∙ here) (ap (λ ns. is_among ns b.feeder) kept ∙ there) range (omega arith))

-- nor has a third
pub third_free : (d0 d1 d2 : Network) (link : ℕ) (a b c : Feed) → d1 ≡ with_feed d0 link a → d2 ≡ with_feed d1 link b
    → feeds_at d0.links link ≡ [] → is_among (link_numbers d0.links) link ≡ true
    → is_among (link_numbers d0.links) c.feeder ≡ true → feed_in_range c ≡ true
    → nat_eq c.feeder a.feeder ≡ false → nat_eq c.feeder b.feeder ≡ false → feed_fault d2 link c ≡ None
third_free d0 d1 d2 link a b c made more unfed here there range apart other =
    let e = with_feed d0 link a in
    let kept = numbers_after e link b ∙ numbers_after d0 link a in
    let first = fed_once d0 link a here ∙ ap (λ (fs : List Feed). fs ++ a ∷ []) unfed in
    let still = ap (λ ns. is_among ns link) (numbers_after d0 link a) ∙ here in
    rw (more, made) (feed_free (with_feed e link b) link c (a ∷ b ∷ [])
    (fed_once e link b still ∙ ap (λ (fs : List Feed). fs ++ b ∷ []) first) (or_from _ _ apart (or_from _ _ other refl))
    (ap (λ ns. is_among ns link) kept ∙ here) (ap (λ ns. is_among ns c.feeder) kept ∙ there) range (omega arith))

-- three feeds of a link in the middle
pub three_middle : (net : Network) (us vs : List LinkValue) (l : LinkValue) (a b c : Feed)
    → is_among (link_numbers us) l.number ≡ false → net.links ≡ us ++ l ∷ vs
    → with_feed (with_feed (with_feed net l.number a) l.number b) l.number c
    ≡ record net { links = us ++ add_feed c (add_feed b (add_feed a l)) ∷ vs }
three_middle net us vs l a b c fresh is =
    rw (
      is,
      on_numbered_after link_number (add_feed a) us vs l fresh,
      on_numbered_after link_number (add_feed b) us vs (add_feed a l) fresh,
      on_numbered_after link_number (add_feed c) us vs (add_feed b (add_feed a l)) fresh,
    )
