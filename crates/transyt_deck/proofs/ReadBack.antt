-- The deck text of a valid network is the deck of that network.
use Rattle.std.proofs.Common.{◌≡◌, ℕ, suc, ◌+◌, ◌-◌, ◌<◌, ◌≤◌, nat_le, List, [], ◌∷◌, ◌++◌, map, length, true, cond}
use Rattle.std.proofs.Common.{not, ◌&&◌, Option, Some, None, Ok, refl, ◌∙◌, ap, arith, append_assoc, flat_map}
use Rattle.std.proofs.Common.{length-append, IfSome}
use Rattle.std.specs.List.{list_all}
use Rattle.std.specs.Option.{option_map}
use Rattle.std.proofs.lemmas.Grind.{flat_map-append}
use Rattle.transyt_deck.proofs.CardTexts.{Fits}
use Rattle.std.proofs.lemmas.Bool.Decides.{nat_tests}
use Rattle.transyt_io.specs.Lines.{lines}
use Rattle.transyt_syntax.specs.declared.code.Code.TheVariants as code
use Rattle.transyt_syntax.specs.Syntax.{when, unless}
use Rattle.transyt_parts.specs.declared.frame.Frame.{Frame}
use Rattle.transyt_parts.specs.declared.stage_plan.PlanFault.{PlanFault}
use Rattle.transyt_parts.specs.Parts.{PlanValue}
use Rattle.transyt_parts.specs.Valid.{IsFrame, IsPlan, is_frame, within}
use Rattle.transyt_parts.proofs.PlanLaws.{none_first}
use Rattle.transyt_net.specs.declared.draft.DraftFault.TheVariants.{Range}
use Rattle.transyt_net.specs.Parts.{Network}
use Rattle.transyt_net.specs.Valid.{IsSound, IsValid}
use Rattle.transyt_io.specs.Forms.{values_text}
use Rattle.transyt_deck.specs.declared.card.Card.{Card}
use Rattle.transyt_deck.specs.declared.card.Card.TheVariants as c
use Rattle.transyt_deck.specs.declared.state.Part.{Part}
use Rattle.transyt_deck.specs.declared.state.Part.TheVariants as p
use Rattle.transyt_deck.specs.declared.state.State.TheVariants as s
use Rattle.transyt_deck.specs.Cards.{card_line, cards_text, deck_cards, deck_text, feed_cards, link_card, node_cards}
use Rattle.transyt_deck.specs.Cards.{card_words, plan_cards, rule_cards}
use Rattle.transyt_deck.specs.State.{making, plan_code, state_with, up_to}
use Rattle.transyt_deck.specs.Deck.{Complete, deck, deck_by}
use Rattle.transyt_deck.proofs.FeedBlocks.{feeds_read}
use Rattle.transyt_deck.proofs.LinkBlocks.{links_read, state}
use Rattle.transyt_deck.proofs.NodeBlocks.{is_added, nodes_read, nodes_state}
use Rattle.transyt_deck.proofs.NumberTexts.{is_small}
use Rattle.transyt_deck.proofs.Reading.{Reads, Upto, next_card, reads_both, reads_more, reads_none}
use Rattle.transyt_deck.proofs.RuleBlocks.{rules_read}
use Rattle.transyt_deck.proofs.Small.{each_passes, small_le, within_true}

plan_count : (n : ℕ) → 1 ≤ n → n ≤ 16 → (nat_le 2 (suc n) && nat_le (suc n) 17) ≡ true
plan_count n x y = grind (arith, nat_tests)

-- the STEPS card, if there is one
plan_read : (net : Network) (part : Upto p.Feeds) (o : Option PlanValue) → net.frame.step_count ≤ 120
    → IfSome o (IsPlan net.frame.step_count)
    → (q : Part) × Reads (state net part.0 net.links) (plan_cards o) (s.Making 2 q (record net { plan = o }))
plan_read net part None short h = (part.0, reads_none _)
plan_read net part (Some v) short h =
    let steps = net.frame.step_count in
    let IsSize : ℕ → Type 0 = λ n. (1 ≤ n) × (n < steps) in
    let budget = within_true 1 1000000 v.budget h.budget.0 h.budget.1 in
    let sizes = each_passes IsSize (within 1 (steps - 1))
    (λ n h. let below : n < steps = h.1 in within_true 1 (steps - 1) n h.0 (omega arith)) v.sizes h.sizes in
    let small_budget = small_le 1000000 v.budget h.budget.1 (omega arith) in
    let small_sizes = each_passes IsSize is_small
    (λ n h. let below : n < steps = h.1 in small_le 120 n (omega arith) (omega arith)) v.sizes h.sizes in
    let some : 1 ≤ length v.sizes = h.size_count.0 in
    let few : length v.sizes ≤ 16 = h.size_count.1 in (
      p.Plan,
      reads_more {s = state net part.0 net.links} {card = c.Steps v.budget v.sizes} record {
        small = λ j. small_budget j && small_sizes j;
        few = omega arith;
        count = ap Some (plan_count (length v.sizes) some few);
        back = refl;
      }
          (is_added 2 _ _ p.Plan _ part.1 (λ j. cond (not (budget j && sizes j)) (Some Range) None)) (λ n. refl)
          (reads_none _),
    )

frame_true : (f : Frame) → IsFrame f → is_frame f ≡ true
frame_true f h = grind (arith, nat_tests)

-- the cards between FORM and END
abbrev inside : Network → List Card
inside net =
    c.Cycle net.frame
    ∷ (flat_map node_cards net.nodes ++ (map link_card net.links ++ (flat_map feed_cards net.links
    ++ (flat_map rule_cards net.links ++ plan_cards net.plan))))

end_last : (a b c d e x : List Card) → a ++ (b ++ (c ++ (d ++ (e ++ x)))) ≡ (a ++ (b ++ (c ++ (d ++ e)))) ++ x
end_last a b c d e x = simp append_assoc

cards_are : (net : Network) → deck_cards net ≡ (c.Form 2 ∷ inside net) ++ c.End ∷ []
cards_are net =
    ap (λ (l : List Card). c.Form 2 ∷ c.Cycle net.frame ∷ l)
    (end_last (flat_map node_cards net.nodes) (map link_card net.links) (flat_map feed_cards net.links)
    (flat_map rule_cards net.links) (plan_cards net.plan) (c.End ∷ []))

-- all cards but END
all_read : (net : Network) → IsSound net → (q : Part) × Reads s.Start (c.Form 2 ∷ inside net) (s.Making 2 q net)
all_read net is =
    let short : net.frame.step_count ≤ 120 = is.frame.step_count.1 in
    let links_are = is.links in
    let nodes = nodes_read net.frame (p.Frame, refl) net.nodes short is.nodes_differ is.node_count is.nodes in
    let links = links_read net (nodes.0.0, later nodes.0.0 nodes.0.1) short is.nodes is.links_differ is.link_count links_are in
    let feeds = feeds_read net (links.0.0, last links.0.0 links.0.1) is.links_differ links_are in
    let rules = rules_read net feeds.0 is.links_differ links_are in
    let plan = plan_read net rules.0 net.plan short is.plan in
    let frame = frame_true net.frame is.frame in
    let empty = nodes_state net.frame p.Frame [] in
    let framed : state_with (s.Formed 2) (c.Cycle net.frame) ≡ Ok empty =
    λ j. unless (when (not (frame j)) code.Range) empty in
    let further = reads_both nodes.1 (reads_both links.1 (reads_both feeds.1 (reads_both rules.1 plan.1))) in (
      plan.0,
      reads_more {s = s.Start} {t = s.Formed 2} {card = c.Form 2}
          record { small = refl; few = omega arith; count = refl; back = refl } refl (λ n. refl)
          (reads_more {s = s.Formed 2} {card = c.Cycle net.frame}
          record { small = frame_small net.frame is.frame; few = omega arith; count = refl; back = refl }
          framed (λ n. refl) further),
    )
  where
    later : (q : Part) → up_to p.Nodes q ≡ true → up_to p.Links q ≡ true
    later q h = grind (arith, nat_tests)

    last : (q : Part) → up_to p.Links q ≡ true → up_to p.Feeds q ≡ true
    last q h = grind (arith, nat_tests)

    frame_small : (f : Frame) → IsFrame f → list_all is_small (card_words (c.Cycle f)).1 ≡ true
    frame_small f h = grind (arith, nat_tests)

-- the deck text of a valid network is the deck of that network, complete at its last line
pub deck_read_back : (net : Network) → IsValid net
    → deck (lines (deck_text net)) ≡ Complete (length (deck_cards net)) net
unfolding values_text
deck_read_back net h =
    let front = c.Form 2 ∷ inside net in
    let read = all_read net h.sound in
    let fine = none_first net.frame.step_count net.nodes h.planned in
    let fits : Fits 2 c.End = record { small = refl; few = omega arith; count = refl; back = refl } in
    let count : (0 + length front) + 1 ≡ length (deck_cards net) =
    omega (arith, ap (λ (l : List Card). length l) (cards_are net), length-append front (c.End ∷ [])) in
    ap (λ (cs : List Card). deck (lines (cards_text cs))) (cards_are net)
    ∙ ap (λ (l : List ℕ). deck (lines l)) (flat_map-append card_line front (c.End ∷ []))
    ∙ read.1.is 0 (cards_text (c.End ∷ []))
    ∙ next_card (0 + length front) (s.Making 2 read.0 net) c.End fits
    ∙ ap (λ (o : Option PlanFault). deck_by ((0 + length front) + 1)
    (making 2 (unless (option_map plan_code o) (p.End, net)))) fine
    ∙ ap (λ (n : ℕ). Complete n net) count
