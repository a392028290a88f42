-- The calls of a draft: the first fault of each, and the network after it.
use Rattle.std.specs.Prelude.{◌≡◌, Option, Some, None, Result, Ok, Err, ℕ, Bool, ◌&&◌, ◌||◌, not, nat_le, List, [], ◌∷◌}
use Rattle.std.specs.Prelude.{◌++◌, length, if◌then◌else◌, slice_get, is_some, ◌-◌}
use Rattle.std.specs.List.{list_all}
use Rattle.transyt_net.specs.declared.draft.DraftFault.{DraftFault}
use Rattle.transyt_net.specs.declared.draft.DraftFault.TheVariants.{Twice, Unknown, Range, TooMany}
use Rattle.transyt_net.specs.Parts.{Network, NodeValue, LinkValue, PlanValue, Frame, Stage, Feed, GiveWay}
use Rattle.transyt_net.specs.Valid.{is_among, node_numbers, link_numbers, on_numbered, on_place, stages_at, feeds_at}
use Rattle.transyt_net.specs.Valid.{rule_at, stage_total, within, all_differ, is_fed, link_number, node_in_range}
use Rattle.transyt_net.specs.Valid.{stage_in_range, link_in_range, feed_in_range}
use Rattle.transyt_parts.specs.Ranges.{is_in, most_percent, budget_range}
use Rattle.transyt_parts.specs.Made.{new_node, add_stage, add_feed, set_rule}

-- A call refuses exactly where it has a first fault, and with that fault. Where it has none it succeeds, or is refused
-- with the fault that stands for out of memory; never, where the call has no such fault.
abbrev pub Refuses : {T F : Type 0} → Result T F → (first memory : Option F) → Type 0
Refuses (Ok done) first memory = first ≡ None
Refuses (Err fault) (Some first) memory = fault ≡ first
Refuses (Err fault) None memory = memory ≡ Some fault

-- a network with nothing in it
abbrev pub empty : Frame → Network
empty frame = record { frame = frame; nodes = []; links = []; plan = None }

-- the first fault of a new node
abbrev pub node_fault : Network → ℕ → ℕ → Option DraftFault
node_fault net number offset =
    if is_among (node_numbers net.nodes) number then Some Twice
    else if not (node_in_range net.frame.step_count number offset) then Some Range
    else if nat_le 200 (length net.nodes) then Some TooMany
    else None

-- the network with a new node, which has no stage yet
abbrev pub with_node : Network → ℕ → ℕ → Network
with_node net number offset = record net { nodes = net.nodes ++ new_node number offset ∷ [] }

-- the place of the last node
abbrev pub last_place : List NodeValue → ℕ
last_place nodes = length nodes - 1

-- the first fault of a new stage of the last node
abbrev pub stage_fault : Network → Stage → Option DraftFault
stage_fault net stage =
    if not (stage_in_range net.frame.step_count stage) then Some Range
    else if nat_le 8 (stage_total (slice_get net.nodes (last_place net.nodes))) then Some TooMany
    else None

-- the network with a new stage of the last node
abbrev pub with_stage : Network → Stage → Network
with_stage net stage = record net { nodes = on_place (add_stage stage) net.nodes (last_place net.nodes) }

-- the first fault of a new link, which has neither feeds nor a rule yet
abbrev pub link_fault : Network → LinkValue → Option DraftFault
link_fault net l =
    if is_among (link_numbers net.links) l.number || not (all_differ l.stages) then Some Twice
    else if not (is_among (node_numbers net.nodes) l.node
    && list_all (within 1 (stages_at net.nodes l.node)) l.stages) then Some Unknown
    else if not (link_in_range net.frame.step_count l) then Some Range
    else if nat_le 1000 (length net.links) then Some TooMany
    else None

-- the network with a new link
abbrev pub with_link : Network → LinkValue → Network
with_link net l = record net { links = net.links ++ l ∷ [] }

-- whether both are links
abbrev pub are_links : Network → ℕ → ℕ → Bool
are_links net a b = is_among (link_numbers net.links) a && is_among (link_numbers net.links) b

-- the first fault of a new feed
abbrev pub feed_fault : Network → ℕ → Feed → Option DraftFault
feed_fault net link f =
    if is_fed (feeds_at net.links link) f.feeder then Some Twice
    else if not (are_links net link f.feeder) then Some Unknown
    else if not (feed_in_range f) then Some Range
    else if nat_le 8 (length (feeds_at net.links link)) then Some TooMany
    else None

-- the network with a new feed of a link
abbrev pub with_feed : Network → ℕ → Feed → Network
with_feed net link f = record net { links = on_numbered link_number (add_feed f) net.links link }

-- the first fault of a new give-way rule
abbrev pub rule_fault : Network → ℕ → GiveWay → Option DraftFault
rule_fault net link rule =
    if is_some (rule_at net.links link) then Some Twice
    else if not (are_links net link rule.other) then Some Unknown
    else if not (nat_le rule.percent most_percent) then Some Range
    else None

-- the network with a new give-way rule of a link
abbrev pub with_rule : Network → ℕ → GiveWay → Network
with_rule net link rule = record net { links = on_numbered link_number (set_rule rule) net.links link }

-- the first fault of a climb plan
abbrev pub climb_fault : Network → PlanValue → Option DraftFault
climb_fault net plan =
    if not (is_in budget_range plan.budget && list_all (within 1 (net.frame.step_count - 1)) plan.sizes) then Some Range
    else None

-- the network with a climb plan
abbrev pub with_plan : Network → PlanValue → Network
with_plan net plan = record net { plan = Some plan }
