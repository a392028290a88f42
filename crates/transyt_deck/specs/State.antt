-- The state of a deck, card by card.
use Rattle.std.specs.Prelude.{ℕ, Bool, not, nat_le, if◌then◌else◌, ◌==◌, List, Option, Some, None, option_and_then}
use Rattle.std.specs.Prelude.{option_map, Result, Ok, Err, ◌&&◌, true, false, [], ◌-◌}
use Rattle.std.specs.List.{list_all}
use Rattle.transyt_syntax.specs.declared.code.Code.{Code}
use Rattle.transyt_syntax.specs.declared.code.Code.TheVariants as code
use Rattle.transyt_syntax.specs.Syntax.{when, unless, said}
use Rattle.transyt_parts.specs.declared.stage_plan.PlanFault.{PlanFault}
use Rattle.transyt_parts.specs.declared.stage_plan.PlanFault.TheVariants as plan
use Rattle.transyt_parts.specs.Valid.{within, is_frame, node_in_range, stage_in_range, link_in_range, feed_in_range}
use Rattle.transyt_parts.specs.Ranges.{is_in, most_percent, budget_range}
use Rattle.transyt_parts.specs.Plan.{first_fault}
use Rattle.transyt_parts.specs.Made.{link_from, new_plan}
use Rattle.transyt_net.specs.declared.draft.DraftFault.{DraftFault}
use Rattle.transyt_net.specs.declared.draft.DraftFault.TheVariants as fault
use Rattle.transyt_net.specs.Parts.{Network}
use Rattle.transyt_net.specs.Faults.{node_fault, stage_fault, link_fault, feed_fault, rule_fault, climb_fault}
use Rattle.transyt_net.specs.Faults.{empty, with_node, with_stage, with_link, with_feed, with_rule, with_plan}
pub use Rattle.transyt_deck.specs.declared.card.Card.{Card}
use Rattle.transyt_deck.specs.declared.card.Card.TheVariants as c
pub use Rattle.transyt_deck.specs.declared.state.Part.{Part}
use Rattle.transyt_deck.specs.declared.state.Part.TheVariants as p
pub use Rattle.transyt_deck.specs.declared.state.State.{State}
use Rattle.transyt_deck.specs.declared.state.State.TheVariants as s
use Rattle.transyt_deck.specs.Cards.{cards}

-- the place of a part in the order of the parts
abbrev pub rank : Part → ℕ
rank p.Frame = 0
rank p.Nodes = 1
rank p.Links = 2
rank p.Feeds = 3
rank p.Plan = 4
rank p.End = 5

-- a deck has come no further than to this part
abbrev pub up_to : Part → Part → Bool
up_to last part = nat_le (rank part) (rank last)

-- the code of a fault; out of memory has none
abbrev pub fault_code : DraftFault → Option Code
fault_code fault.Twice = Some code.Twice
fault_code fault.Unknown = Some code.Unknown
fault_code fault.Range = Some code.Range
fault_code fault.TooMany = Some code.TooMany
fault_code fault.Memory = None

-- the code of a stage plan's fault
abbrev pub plan_code : PlanFault → Code
plan_code plan.FewStages = code.FewStages
plan_code plan.StageOrder = code.StageOrder
plan_code plan.LeastGreen = code.LeastGreen

-- whether each number of a card is in its range, in a cycle of so many steps; a card whose numbers aren't has code 14, if
-- none that is asked for before
abbrev pub card_in_range : ℕ → Card → Bool
card_in_range steps (c.Form form) = within 1 2 form
card_in_range steps (c.Cycle frame) = is_frame frame
card_in_range steps (c.Node number offset) = node_in_range steps number offset
card_in_range steps (c.Stage stage) = stage_in_range steps stage
card_in_range steps (c.Link link stages) = link_in_range steps (link_from link [])
card_in_range steps (c.Feed link feed) = feed_in_range feed
card_in_range steps (c.Yield link rule) = nat_le rule.percent most_percent
card_in_range steps (c.Steps budget sizes) = is_in budget_range budget && list_all (within 1 (steps - 1)) sizes
card_in_range steps c.End = true

-- the outcome of a card: out of its place, or refused with the code of its fault, or the part and the network with it
abbrev pub placed : Bool → Option DraftFault → Part → Network → Result (Part × Network) Code
placed fits fault part net =
    if fits then unless (option_and_then fault_code fault) (part, net) else Err code.OutOfPlace

-- the part of a deck in which a card stands
abbrev pub part_of : Card → Part
part_of (c.Form form) = p.Frame
part_of (c.Cycle frame) = p.Frame
part_of (c.Node number offset) = p.Nodes
part_of (c.Stage stage) = p.Nodes
part_of (c.Link link stages) = p.Links
part_of (c.Feed link feed) = p.Feeds
part_of (c.Yield link rule) = p.Feeds
part_of (c.Steps budget sizes) = p.Plan
part_of c.End = p.End

-- a card before END may stand where a deck has come to a part: a STAGE card after a node, a STEPS card once
abbrev pub takes : Part → Card → Bool
takes part (c.Form form) = false
takes part (c.Cycle frame) = false
takes part (c.Stage stage) = rank part == rank p.Nodes
takes part (c.Steps budget sizes) = up_to p.Feeds part
takes part card = up_to (part_of card) part

-- the first fault of a card before END in a network
abbrev pub fault_of : Network → Card → Option DraftFault
fault_of net (c.Node number offset) = node_fault net number offset
fault_of net (c.Stage stage) = stage_fault net stage
fault_of net (c.Link link stages) = link_fault net (link_from link stages)
fault_of net (c.Feed link feed) = feed_fault net link feed
fault_of net (c.Yield link rule) = rule_fault net link rule
fault_of net (c.Steps budget sizes) = climb_fault net (new_plan budget sizes)
fault_of net _ = None

-- a network with what a card brings
abbrev pub net_with : Network → Card → Network
net_with net (c.Node number offset) = with_node net number offset
net_with net (c.Stage stage) = with_stage net stage
net_with net (c.Link link stages) = with_link net (link_from link stages)
net_with net (c.Feed link feed) = with_feed net link feed
net_with net (c.Yield link rule) = with_rule net link rule
net_with net (c.Steps budget sizes) = with_plan net (new_plan budget sizes)
net_with net _ = net

-- a card after the CYCLE card, where the deck has come to a part and a network
abbrev pub added : Part → Network → Card → Result (Part × Network) Code
added part net c.End = unless (option_map plan_code (first_fault net.frame.step_count net.nodes)) (p.End, net)
added part net card = placed (takes part card) (fault_of net card) (part_of card) (net_with net card)

-- a card before the CYCLE card, in a deck of this form
abbrev pub framed : ℕ → Card → Result State Code
framed form (c.Cycle frame) = unless (when (not (is_frame frame)) code.Range) (s.Making form p.Frame (empty frame))
framed form _ = Err code.OutOfPlace

-- the state of a form with what a card makes
abbrev pub making : ℕ → Result (Part × Network) Code → Result State Code
making form (Ok made) = Ok (s.Making form made.0 made.1)
making form (Err code) = Err code

-- the state with one card more, or the first code that holds of the card; a deck without a FORM card has form 1
abbrev pub state_with : State → Card → Result State Code
state_with s.Start (c.Form form) = unless (when (not (within 1 2 form)) code.Range) (s.Formed form)
state_with s.Start card = framed 1 card
state_with (s.Formed form) card = framed form card
state_with (s.Making form part net) card = making form (added part net card)

-- the form of a deck's LINK cards
abbrev pub form_of : State → ℕ
form_of s.Start = 1
form_of (s.Formed form) = form
form_of (s.Making form part net) = form

-- the state after what a line says
abbrev pub state_by : State → Result (Option Card) Code → Result State Code
state_by state (Ok None) = Ok state
state_by state (Ok (Some card)) = state_with state card
state_by state (Err code) = Err code

-- the state after a line, or the first code that holds of the line; a skipped line has none
abbrev pub state_after : State → List ℕ → Result State Code
state_after state line = state_by state (said (cards (form_of state)) line)
