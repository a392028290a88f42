-- A card that the network refuses, and the deck after a line.
use Rattle.std.proofs.Common.{◌≡◌, ℕ, zero, suc, ◌+◌, List, [], ◌∷◌, ◌++◌, true, Result, Ok, Err}
use Rattle.std.proofs.Common.{refl, not, is_some, IsOk, Bool, Option, Some, None, OnErr, arith, sym, subst, ◌∙◌}
use Rattle.std.specs.List.{fold}
use Rattle.std.proofs.lemmas.List.Sums.{fold-append}
use Rattle.transyt_io.specs.Lines.{after_first_line}
use Rattle.transyt_syntax.specs.declared.code.Code.{Code}
use Rattle.transyt_deck.specs.declared.card.Card.{Card}
use Rattle.transyt_deck.specs.declared.card.Card.TheVariants as c
use Rattle.transyt_deck.specs.declared.state.Part.TheVariants as p
use Rattle.transyt_deck.specs.declared.state.State.{State}
use Rattle.transyt_deck.specs.declared.state.State.TheVariants as s
use Rattle.std.specs.Result.{IsErrAnd}
use Rattle.std.proofs.lemmas.Grind.{common_steps}
use Rattle.transyt_net.specs.Parts.{Network}
use Rattle.transyt_net.specs.Faults.{Refuses}
use Rattle.transyt_net.specs.declared.draft.DraftFault.{DraftFault}
use Rattle.transyt_net.specs.declared.draft.DraftFault.TheVariants.{Memory}
use Rattle.transyt_deck.specs.declared.state.Part.{Part}
use Rattle.transyt_deck.specs.declared.state.Stop.{Stop}
use Rattle.transyt_deck.specs.Adds.{Adds, stopped}
use Rattle.transyt_deck.specs.Deck.{after_lines, Complete, Deck, Open, Refused, deck, deck_at, deck_by, start, code_of}
use Rattle.transyt_deck.specs.Deck.{is_complete, is_open, line_count, next}
use Rattle.transyt_deck.specs.State.{placed, takes, fault_of, part_of, net_with, added, state_after}

-- a card before END, by its part, its fault and what it brings
added_by : (part : Part) (net : Network) (card : Card) → (card ≡ c.End → ⊥)
    → added part net card ≡ placed (takes part card) (fault_of net card) (part_of card) (net_with net card)
added_by part net c.End early = absurd (early refl)
added_by part net card early = refl

-- a card in its place that the network refuses, or has no memory for
stopped_in : (fits : Bool) (first : Option DraftFault) (part to : Part) (old new net : Network)
    (call : Result (Unit {0}) DraftFault) (made r : Result (Unit {0}) (Stop Code)) (stop : Stop Code)
    → fits ≡ true → Refuses call first (Some Memory) → OnErr call (new ≡ old) → made ≡ stopped call
    → made ≡ Err stop → IsErrAnd r (λ e. e ≡ stop) → Adds (placed fits first to net) (part, old) (part, new) r
stopped_in fits first part to old new net call made r stop fit refuses same is was told = grind (arith, common_steps)

pub adds_stopped : (part : Part) (card : Card) (old new : Network) (call : Result (Unit {0}) DraftFault)
    (made r : Result (Unit {0}) (Stop Code)) (stop : Stop Code) → (card ≡ c.End → ⊥) → takes part card ≡ true
    → Refuses call (fault_of old card) (Some Memory) → OnErr call (new ≡ old) → made ≡ stopped call → made ≡ Err stop
    → IsErrAnd r (λ e. e ≡ stop) → Adds (added part old card) (part, old) (part, new) r
adds_stopped part card old new call made r stop early fit refuses same is was told =
    subst (λ to. Adds to (part, old) (part, new) r) (sym (added_by part old card early))
    (stopped_in _ _ part _ old new _ call made r stop fit refuses same is was told)

-- a card in its place that the network takes
taken_in : (fits : Bool) (first : Option DraftFault) (to : Part) (net : Network) → fits ≡ true → first ≡ None
    → placed fits first to net ≡ Ok (to, net)
taken_in fits first to net fit none = grind (arith, common_steps)

pub adds_taken : (part : Part) (card : Card) (net : Network) → (card ≡ c.End → ⊥) → takes part card ≡ true
    → fault_of net card ≡ None → added part net card ≡ Ok (part_of card, net_with net card)
adds_taken part card net early fit none = added_by part net card early ∙ taken_in _ _ _ _ fit none

-- the count of a deck at a state
pub count_at : (n : ℕ) (state : State) → line_count (deck_at n state) ≡ n
count_at n (s.Making form p.End net) = refl
count_at n state = refl

-- the count of a deck after a line
pub count_by : (n : ℕ) (r : Result State Code) → line_count (deck_by n r) ≡ n
count_by n (Ok state) = count_at n state
count_by n (Err code) = refl

-- a line counts one more
pub count_next : (d : Deck) (line : List ℕ) → is_open d ≡ true → line_count (next d line) ≡ line_count d + 1
count_next (Open n state) line still = count_by (n + 1) (state_after state line)
count_next (Complete n net) line still = absurd (cc)
count_next (Refused n code) line still = absurd (cc)

-- a line that is accepted has no code
pub no_code : (n : ℕ) (r : Result State Code) → IsOk r → not (is_some (code_of (deck_by n r))) ≡ true
no_code n (Err code) ok = absurd (cc)
no_code n (Ok (s.Making form p.End net)) ok = refl
no_code n (Ok state) ok = refl

-- nor has a reader's deck with that line
pub still_fits : (n : ℕ) (state : State) (line : List ℕ) → is_open (deck_at n state) ≡ true
    → IsOk (state_after state line) → not (is_some (code_of (next (deck_at n state) line))) ≡ true
still_fits n (s.Making form p.End net) line still ok = absurd (cc)
still_fits n state line still ok = no_code (n + 1) _ ok

-- a deck that is complete stays so
pub stays_complete : (d : Deck) (more : List (List ℕ)) → is_complete d ≡ true → fold next d more ≡ d
stays_complete (Complete n net) [] ended = refl
stays_complete (Complete n net) (line ∷ more) ended = stays_complete (Complete n net) more ended
stays_complete (Open n state) more ended = absurd (cc)
stays_complete (Refused n code) more ended = absurd (cc)

-- a deck that is refused stays so
pub stays_refused : (n : ℕ) (code : Code) (more : List (List ℕ)) → fold next (Refused n code) more ≡ Refused n code
stays_refused n code [] = refl
stays_refused n code (line ∷ more) = stays_refused n code more

-- the bytes after one line more
pub after_more : (n : ℕ) (bytes : List ℕ) → after_lines (suc n) bytes ≡ after_first_line (after_lines n bytes)
after_more zero bytes = refl
after_more (suc n) bytes = after_more n (after_first_line bytes)

-- the deck of lines and one more
pub deck_more : (before : List (List ℕ)) (line : List ℕ) → deck (before ++ line ∷ []) ≡ next (deck before) line
deck_more before line = fold-append next start before (line ∷ [])
