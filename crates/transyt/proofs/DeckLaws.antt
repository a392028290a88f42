-- The network of a complete deck is valid.
use Rattle.std.proofs.Common.{◌≡◌, ℕ, ◌+◌, ◌-◌, ◌<◌, ◌≤◌, Bool, true, false, not, ◌&&◌, List, length}
use Rattle.std.proofs.Common.{Option, Some, None, Result, Ok, Err, if◌then◌else◌, refl, arith}
use Rattle.std.specs.List.{list_all}
use Rattle.std.specs.Option.{option_map}
use Rattle.std.proofs.lemmas.Bool.{and_parts, not-false}
use Rattle.std.proofs.lemmas.Bool.Decides.{nat_tests}
use Rattle.transyt_syntax.specs.Syntax.{when}
use Rattle.transyt_syntax.specs.declared.code.Code.{Code}
use Rattle.transyt_syntax.specs.declared.code.Code.TheVariants as code
use Rattle.transyt_syntax.specs.Syntax.{said, unless}
use Rattle.transyt_parts.specs.declared.frame.Frame.{Frame}
use Rattle.transyt_parts.specs.declared.stage_plan.PlanFault.{PlanFault}
use Rattle.transyt_parts.specs.Parts.{PlanValue}
use Rattle.transyt_parts.specs.Plan.{first_fault}
use Rattle.transyt_parts.specs.Valid.{within, is_frame, IsFrame}
use Rattle.transyt_parts.specs.Ranges.{is_in, budget_range}
use Rattle.transyt_parts.specs.Made.{link_from, new_plan}
use Rattle.transyt_parts.proofs.PlanLaws.{all_planned}
use Rattle.transyt_net.specs.declared.draft.DraftFault.{DraftFault}
use Rattle.transyt_net.specs.declared.draft.DraftFault.TheVariants.{Twice, Unknown, Range, TooMany, Memory}
use Rattle.transyt_net.specs.Parts.{Network}
use Rattle.transyt_net.specs.Valid.{IsSound, IsValid}
use Rattle.transyt_net.specs.Faults.{empty, node_fault, stage_fault, link_fault, feed_fault, rule_fault, climb_fault, with_plan}
use Rattle.std.proofs.lemmas.List.Elements.{All-weaker, All-nil}
use Rattle.transyt_net.proofs.WriteLaws.{no_fault, in_range, all_in_range}
use Rattle.transyt_net.proofs.SoundNodes.{sound_node, sound_stage}
use Rattle.transyt_net.proofs.SoundLinks.{sound_link, sound_feed, sound_rule}
use Rattle.transyt_deck.specs.declared.card.Card.{Card}
use Rattle.transyt_deck.specs.declared.card.Card.TheVariants as c
use Rattle.transyt_deck.specs.declared.state.Part.{Part}
use Rattle.transyt_deck.specs.declared.state.Part.TheVariants as p
use Rattle.transyt_deck.specs.declared.state.State.{State}
use Rattle.transyt_deck.specs.declared.state.State.TheVariants as s
use Rattle.transyt_deck.specs.State.{placed, added, plan_code, making, framed, state_with, state_by, form_of, rank, up_to}
use Rattle.transyt_deck.specs.Cards.{cards}
use Rattle.transyt_deck.specs.Adds.{CanAdd}
use Rattle.transyt_deck.specs.Deck.{Deck, Refused, Complete, Open, deck_at, deck_by, next}
use Rattle.transyt.proofs.SaidCards.{CanSaid, said_can}
use Rattle.std.specs.Prelude.{◌==◌}

-- the network of a state is sound and, at END, each node has a plan
abbrev IsState : State → Type 0
IsState s.Start = Unit {0}
IsState (s.Formed form) = Unit {0}
IsState (s.Making form part net) =
    IsSound net × (part ≡ p.End → first_fault net.frame.step_count net.nodes ≡ None)

-- the network of a complete deck is valid
abbrev pub IsDeck : Deck → Type 0
IsDeck (Open count state) = IsState state
IsDeck (Complete number net) = IsValid net
IsDeck (Refused number code) = Unit {0}

-- no want of memory
IsNamed : Option DraftFault → Type 0
IsNamed (Some Memory) = ⊥
IsNamed _ = Unit {0}

named_if : (b : Bool) (x y : Option DraftFault) → IsNamed x → IsNamed y → IsNamed (if b then x else y)
named_if true x y h k = h
named_if false x y h k = k

named_none : IsNamed None
unfolding IsNamed
named_none = tt

named_twice : IsNamed (Some Twice)
unfolding IsNamed
named_twice = tt

named_unknown : IsNamed (Some Unknown)
unfolding IsNamed
named_unknown = tt

named_range : IsNamed (Some Range)
unfolding IsNamed
named_range = tt

named_many : IsNamed (Some TooMany)
unfolding IsNamed
named_many = tt

-- the result of a card: a sound network and, at END, a plan of each node
abbrev IsMade : Result (Part × Network) Code → Type 0
IsMade (Ok made) = IsSound made.1 × (made.0 ≡ p.End → first_fault made.1.frame.step_count made.1.nodes ≡ None)
IsMade (Err code) = Unit {0}

placed_made : (fits : Bool) (fault : Option DraftFault) (to : Part) (net : Network) → IsNamed fault
    → (to ≡ p.End → ⊥) → (fault ≡ None → IsSound net) → IsMade (placed fits fault to net)
unfolding IsNamed
placed_made false fault to net named last sound = tt
placed_made true None to net named last sound = (sound refl, λ e. absurd (last e))
placed_made true (Some Memory) to net named last sound = absurd named
placed_made true (Some other) to net named last sound = tt

-- a sound network with a climb plan that has no fault
sound_plan : (net : Network) (plan : PlanValue) → IsSound net → (1 ≤ length plan.sizes) × (length plan.sizes ≤ 16)
    → climb_fault net plan ≡ None → IsSound (with_plan net plan)
sound_plan net plan h count none =
    let steps = net.frame.step_count in
    let fits = list_all (within 1 (steps - 1)) plan.sizes in
    let ranged = no_fault (not (is_in budget_range plan.budget && fits)) Range _ none in
    let both = and_parts (is_in budget_range plan.budget) fits (not-false _ ranged.0) in
    let some = h.frame.step_count.0 in
    let sizes = All-weaker (λ n. (1 ≤ n) × (n ≤ steps - 1)) (λ n. (1 ≤ n) × (n < steps))
    (λ n in_it. (in_it.0, let least = in_it.0 in let most = in_it.1 in omega (arith, least, most))) plan.sizes
    (all_in_range 1 (steps - 1) plan.sizes both.1) in
    record {
      frame = h.frame;
      node_count = h.node_count;
      nodes_differ = h.nodes_differ;
      nodes = h.nodes;
      link_count = h.link_count;
      links_differ = h.links_differ;
      links = h.links;
      plan = record { budget = in_range _ _ plan.budget both.0; size_count = count; sizes = sizes };
    }

-- a card
added_made : (part : Part) (net : Network) → IsSound net → (card : Card) → CanAdd card → IsMade (added part net card)
added_made part net h (c.Form form) can = tt
added_made part net h (c.Cycle frame) can = tt
added_made part net h (c.Node number offset) can =
    placed_made (up_to p.Nodes part) (node_fault net number offset) p.Nodes _
    (named_if _ _ _ named_twice (named_if _ _ _ named_range (named_if _ _ _ named_many named_none))) (λ e. absurd (cc)) (sound_node net number offset h)
added_made part net h (c.Stage stage) can =
    placed_made (rank part == rank p.Nodes) (stage_fault net stage) p.Nodes _
    (named_if _ _ _ named_range (named_if _ _ _ named_many named_none)) (λ e. absurd (cc)) (sound_stage net stage h)
added_made part net h (c.Link link stages) can =
    placed_made (up_to p.Links part) (link_fault net (link_from link stages)) p.Links _
    (named_if _ _ _ named_twice (named_if _ _ _ named_unknown (named_if _ _ _ named_range (named_if _ _ _ named_many named_none)))) (λ e. absurd (cc))
    (sound_link net (link_from link stages) h can refl refl)
added_made part net h (c.Feed link feed) can =
    placed_made (up_to p.Feeds part) (feed_fault net link feed) p.Feeds _
    (named_if _ _ _ named_twice (named_if _ _ _ named_unknown (named_if _ _ _ named_range (named_if _ _ _ named_many named_none)))) (λ e. absurd (cc))
    (sound_feed net link feed h)
added_made part net h (c.Yield link rule) can =
    placed_made (up_to p.Feeds part) (rule_fault net link rule) p.Feeds _
    (named_if _ _ _ named_twice (named_if _ _ _ named_unknown (named_if _ _ _ named_range named_none))) (λ e. absurd (cc)) (sound_rule net link rule h)
added_made part net h (c.Steps budget sizes) can =
    placed_made (up_to p.Feeds part) (climb_fault net (new_plan budget sizes)) p.Plan _ (named_if _ _ _ named_range named_none)
    (λ e. absurd (cc)) (sound_plan net (new_plan budget sizes) h can)
added_made part net h c.End can =
    let by : (o : Option PlanFault) → first_fault net.frame.step_count net.nodes ≡ o
    → IsMade (unless (option_map plan_code o) (p.End, net)) = elim [
      | None ↦ λ is. (h, λ e. is)
      | Some fault ↦ λ is. tt
    ] in
    by (first_fault net.frame.step_count net.nodes) refl

-- a state, if there is one
abbrev IsNext : Result State Code → Type 0
IsNext (Ok state) = IsState state
IsNext (Err code) = Unit {0}

-- a deck's form
formed : (b : Bool) (form : ℕ) → IsNext (unless (when b code.Range) (s.Formed form))
formed true form = tt
formed false form = tt

frame_is : (frame : Frame) → is_frame frame ≡ true → IsFrame frame
frame_is frame h = grind (arith, nat_tests)

-- a network with nothing in it
sound_empty : (frame : Frame) → is_frame frame ≡ true → IsSound (empty frame)
sound_empty frame h = record {
  frame = frame_is frame h;
  node_count = omega arith;
  nodes_differ = refl;
  nodes = All-nil _;
  link_count = omega arith;
  links_differ = refl;
  links = All-nil _;
  plan = tt;
}

-- a deck's frame
framed_is : (form : ℕ) (card : Card) → IsNext (framed form card)
framed_is form (c.Cycle frame) =
    let by : (b : Bool) → is_frame frame ≡ b
    → IsNext (unless (when (not b) code.Range) (s.Making form p.Frame (empty frame))) = elim [
      | true ↦ λ is. (sound_empty frame is, λ e. absurd (cc))
      | false ↦ λ is. tt
    ] in
    by (is_frame frame) refl
framed_is form _ = tt

making_is : (form : ℕ) (r : Result (Part × Network) Code) → IsMade r → IsNext (making form r)
making_is form (Ok made) h = h
making_is form (Err code) h = tt

-- one card more
with_is : (state : State) (card : Card) → IsState state → CanAdd card → IsNext (state_with state card)
with_is s.Start (c.Form form) h can = formed (not (within 1 2 form)) form
with_is s.Start (c.Cycle frame) h can = framed_is 1 (c.Cycle frame)
with_is s.Start _ h can = tt
with_is (s.Formed form) card h can = framed_is form card
with_is (s.Making form part net) card h can = making_is form (added part net card) (added_made part net h.0 card can)

-- one line more
by_is : (state : State) (r : Result (Option Card) Code) → IsState state → CanSaid r → IsNext (state_by state r)
by_is state (Ok None) h can = h
by_is state (Ok (Some card)) h can = with_is state card h can
by_is state (Err code) h can = tt

at_is : (n : ℕ) (state : State) → IsState state → IsDeck (deck_at n state)
at_is n (s.Making form p.End net) h =
    record { sound = h.0; planned = all_planned net.frame.step_count net.nodes (h.1 refl) }
at_is n _ h = h

deck_by_is : (n : ℕ) (r : Result State Code) → IsNext r → IsDeck (deck_by n r)
deck_by_is n (Ok state) h = at_is n state h
deck_by_is n (Err code) h = tt

-- the deck after one line more
pub next_is : (d : Deck) (line : List ℕ) → IsDeck d → IsDeck (next d line)
next_is (Refused number code) line h = tt
next_is (Complete number net) line h = h
next_is (Open count state) line h =
    deck_by_is (count + 1) _ (by_is state (said (cards (form_of state)) line) h (said_can (form_of state) line))
