-- The lines of cards, one card or a list of them at a time.
use Rattle.std.proofs.Common.{◌≡◌, List, [], ◌∷◌, ◌++◌, map, Option, Result, ℕ, refl, sym, ap, ◌∙◌}
use Rattle.std.specs.List.{flat_map}
use Rattle.std.proofs.lemmas.List.{append-nil}
use Rattle.std.proofs.lemmas.Grind.{flat_map-append}
use Rattle.std.proofs.lemmas.List.Folds.{flat_map-map}
use Rattle.transyt_parts.specs.declared.frame.Frame.{Frame}
use Rattle.transyt_parts.specs.Parts.{NodeValue, LinkValue, PlanValue}
use Rattle.transyt_net.specs.Parts.{Network}
use Rattle.transyt_io.specs.Prints.{Prints}
use Rattle.transyt_io.proofs.PrintLaws.{prints_same}
use Rattle.transyt_deck.specs.declared.card.Card.{Card}
use Rattle.transyt_deck.specs.declared.card.Card.TheVariants.{Form, Cycle, End}
use Rattle.transyt_deck.specs.Cards.{card_line, cards_text, node_cards, link_card, feed_cards, rule_cards, plan_cards}
use Rattle.transyt_deck.specs.Cards.{deck_text}

-- one card for each item: its lines are those of the items
pub lines_of_map : {A : Type 0} (f : A → Card) (xs : List A)
    → flat_map (λ x. card_line (f x)) xs ≡ cards_text (map f xs)
lines_of_map f xs = sym (flat_map-map card_line f xs)

-- some cards for each item
pub lines_of_each : {A : Type 0} (f : A → List Card) (xs : List A)
    → flat_map (λ x. cards_text (f x)) xs ≡ cards_text (flat_map f xs)
lines_of_each f [] = refl
lines_of_each f (x ∷ xs) =
    ap (λ (l : List ℕ). cards_text (f x) ++ l) (lines_of_each f xs)
    ∙ sym (flat_map-append card_line (f x) (flat_map f xs))

-- the line of one card is the text of it alone
pub one_printed : {T E : Type 0} {a b : Option (List ℕ)} {f g : ℕ} (r : Result T E) (card : Card)
    → Prints {T = T} {E = E} a b f g r (card_line card) → Prints {T = T} {E = E} a b f g r (cards_text (card ∷ []))
one_printed r card h = prints_same _ _ r _ _ h (sym (append-nil (card_line card)))

-- the parts of a deck's text, each after the other
abbrev pub parts_text : Frame → List NodeValue → List LinkValue → Option PlanValue → List ℕ
parts_text frame nodes links plan =
    cards_text (Form 2 ∷ Cycle frame ∷ [])
    ++ (flat_map (λ n. cards_text (node_cards n)) nodes ++ (flat_map (λ l. card_line (link_card l)) links
    ++ (flat_map (λ l. cards_text (feed_cards l)) links ++ (flat_map (λ l. cards_text (rule_cards l)) links
    ++ (cards_text (plan_cards plan) ++ card_line End)))))

texts : (a b c d e f g : List Card)
    → cards_text a ++ (cards_text b ++ (cards_text c ++ (cards_text d ++ (cards_text e ++ (cards_text f ++ cards_text g)))))
    ≡ cards_text (a ++ (b ++ (c ++ (d ++ (e ++ (f ++ g))))))
texts a b c d e f g = simp flat_map-append

-- those of what stands for a network's parts are its deck text
pub parts_are : {frame : Frame} {nodes : List NodeValue} {links : List LinkValue} {plan : Option PlanValue} (net : Network)
    → frame ≡ net.frame → nodes ≡ net.nodes → links ≡ net.links → plan ≡ net.plan
    → parts_text frame nodes links plan ≡ deck_text net
parts_are net f n l p =
    (λ j. parts_text (f j) (n j) (l j) (p j))
    ∙ (λ j. cards_text (Form 2 ∷ Cycle net.frame ∷ [])
    ++ (lines_of_each node_cards net.nodes j ++ (lines_of_map link_card net.links j
    ++ (lines_of_each feed_cards net.links j ++ (lines_of_each rule_cards net.links j
    ++ (cards_text (plan_cards net.plan) ++ sym (append-nil (card_line End)) j))))))
    ∙ texts (Form 2 ∷ Cycle net.frame ∷ []) (flat_map node_cards net.nodes) (map link_card net.links)
    (flat_map feed_cards net.links) (flat_map rule_cards net.links) (plan_cards net.plan) (End ∷ [])
