-- The table of cards, and the cards of a network with their text.
use Rattle.std.specs.Prelude.{ℕ, ◌==◌, if◌then◌else◌, List, [], ◌∷◌, drop, get_or, codes, ◌++◌, map, flat_map, Option}
use Rattle.std.specs.Prelude.{Some, None}
use Rattle.transyt_syntax.specs.Syntax.{Entry, entry, ranged, at}
use Rattle.transyt_parts.specs.declared.frame.Frame.{Frame}
use Rattle.transyt_parts.specs.Made.{new_stage, new_feed, new_rule, new_weights}
use Rattle.transyt_deck.specs.declared.card.Card.{Card}
use Rattle.transyt_parts.specs.declared.link.NewLink.{NewLink}
use Rattle.transyt_io.specs.Forms.{values_text}
use Rattle.transyt_net.specs.Parts.{Network, NodeValue, LinkValue, PlanValue}
use Rattle.transyt_deck.specs.declared.card.Card.TheVariants as c

-- the frame of a CYCLE card's numbers; a dispersion that is left out is 35
abbrev pub frame_of : List ℕ → Frame
frame_of ns = record {
  cycle = at ns 0;
  step_count = at ns 1;
  sweeps = at ns 2;
  period = at ns 3;
  stop_penalty = at ns 4;
  dispersion = get_or ns 5 35;
}

-- the link of a LINK card's first six numbers and two lags
abbrev pub new_link_of : List ℕ → ℕ → ℕ → NewLink
new_link_of ns start end = record {
  number = at ns 0;
  node = at ns 1;
  entry = at ns 2;
  saturation = at ns 3;
  weights = new_weights (at ns 4) (at ns 5);
  start_lag = start;
  end_lag = end;
}

-- each card of a deck of this form: its keyword, the least and the most numbers after it, and what it says with them;
-- a LINK card has its two lags after the sixth number in form 2, and lags of 0 in form 1
abbrev pub cards : ℕ → List (Entry Card)
cards form =
    entry (codes "FORM") 1 (λ ns. c.Form (at ns 0))
    ∷ ranged (codes "CYCLE") 5 6 (λ ns. c.Cycle (frame_of ns))
    ∷ entry (codes "NODE") 2 (λ ns. c.Node (at ns 0) (at ns 1))
    ∷ entry (codes "STAGE") 3 (λ ns. c.Stage (new_stage (at ns 0) (at ns 1) (at ns 2)))
    ∷ (if form == 2 then ranged (codes "LINK") 9 16 (λ ns. c.Link (new_link_of ns (at ns 6) (at ns 7)) (drop 8 ns))
    else ranged (codes "LINK") 7 14 (λ ns. c.Link (new_link_of ns 0 0) (drop 6 ns)))
    ∷ entry (codes "FEED") 4 (λ ns. c.Feed (at ns 0) (new_feed (at ns 1) (at ns 2) (at ns 3)))
    ∷ entry (codes "YIELD") 3 (λ ns. c.Yield (at ns 0) (new_rule (at ns 1) (at ns 2)))
    ∷ ranged (codes "STEPS") 2 17 (λ ns. c.Steps (at ns 0) (drop 1 ns))
    ∷ entry (codes "END") 0 (λ ns. c.End)
    ∷ []

-- the keyword of a card and its numbers, of a LINK card those of form 2
abbrev pub card_words : Card → List ℕ × List ℕ
card_words (c.Form form) = (codes "FORM", form ∷ [])
card_words (c.Cycle f) =
    (codes "CYCLE", f.cycle ∷ f.step_count ∷ f.sweeps ∷ f.period ∷ f.stop_penalty ∷ f.dispersion ∷ [])
card_words (c.Node number offset) = (codes "NODE", number ∷ offset ∷ [])
card_words (c.Stage s) = (codes "STAGE", s.change ∷ s.intergreen ∷ s.least ∷ [])
card_words (c.Link l stages) = (
  codes "LINK",
  l.number ∷ l.node ∷ l.entry ∷ l.saturation ∷ l.weights.delay ∷ l.weights.stop ∷ l.start_lag ∷ l.end_lag ∷ stages,
)
card_words (c.Feed link f) = (codes "FEED", link ∷ f.feeder ∷ f.flow ∷ f.cruise ∷ [])
card_words (c.Yield link rule) = (codes "YIELD", link ∷ rule.other ∷ rule.percent ∷ [])
card_words (c.Steps budget sizes) = (codes "STEPS", budget ∷ sizes)
card_words c.End = (codes "END", [])

-- the line of a card without its line end: its keyword, and a blank before each number
abbrev pub card_text : Card → List ℕ
card_text card = (card_words card).0 ++ values_text (card_words card).1

-- the line of a card
abbrev pub card_line : Card → List ℕ
card_line card = card_text card ++ 10 ∷ []

-- the lines of cards
abbrev pub cards_text : List Card → List ℕ
cards_text cards = flat_map card_line cards

-- the NODE card of a node and its STAGE cards
abbrev pub node_cards : NodeValue → List Card
node_cards n = c.Node n.number n.offset ∷ map c.Stage n.stages

-- the LINK card of a link
abbrev pub link_card : LinkValue → Card
link_card l =
    let numbers = l.number ∷ l.node ∷ l.entry ∷ l.saturation ∷ l.weights.delay ∷ l.weights.stop ∷ [] in
    c.Link (new_link_of numbers l.start_lag l.end_lag) l.stages

-- the FEED cards of a link
abbrev pub feed_cards : LinkValue → List Card
feed_cards l = map (c.Feed l.number) l.feeds

-- the YIELD card of a link that has a give-way rule
abbrev pub rule_cards : LinkValue → List Card
rule_cards l = elim l.gives_way [ None ↦ [] | Some rule ↦ c.Yield l.number rule ∷ [] ]

-- the STEPS card of a climb plan, if there is one
abbrev pub plan_cards : Option PlanValue → List Card
plan_cards None = []
plan_cards (Some p) = c.Steps p.budget p.sizes ∷ []

-- the cards of a network, of form 2: the nodes with their stages, all links, all feeds, all rules, the climb plan, END
abbrev pub deck_cards : Network → List Card
deck_cards net =
    c.Form 2 ∷ c.Cycle net.frame
    ∷ (flat_map node_cards net.nodes ++ (map link_card net.links ++ (flat_map feed_cards net.links
    ++ (flat_map rule_cards net.links ++ (plan_cards net.plan ++ c.End ∷ [])))))

-- the deck text of a network
abbrev pub deck_text : Network → List ℕ
deck_text net = cards_text (deck_cards net)
