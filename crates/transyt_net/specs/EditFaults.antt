-- The first fault of an edit.
use Rattle.std.specs.Prelude.{ℕ, Bool, ◌&&◌, not, nat_le, nat_lt, List, Option, Some, None, if◌then◌else◌}
use Rattle.transyt_net.specs.Edits.{Edit, Offset, Change, Entry, Part, Cruise, Saturation, Weight, set_change, the_node}
use Rattle.transyt_net.specs.declared.edit.EditFault.{EditFault}
use Rattle.transyt_net.specs.declared.edit.EditFault.TheVariants.{Unknown, NoFeeder, Range, StageOrder, LeastGreen}
use Rattle.transyt_net.specs.Parts.{Network, Stage}
use Rattle.transyt_parts.specs.Valid.{within, is_fed, weights_in_range}
use Rattle.transyt_parts.specs.Ranges.{is_in, most_flow, cruise_range, saturation_range}
use Rattle.transyt_net.specs.Valid.{is_among, node_numbers, link_numbers, stages_at, feeds_at}
use Rattle.transyt_parts.specs.Plan.{in_order, have_greens}

-- the first fault of an edit of a node or link: an unknown name, a range
abbrev pub range_fault : Bool → Bool → Option EditFault
range_fault known fits = if not known then Some Unknown else if not fits then Some Range else None

-- the first fault of an edit of a feed: an unknown link, no such feeder, a range
abbrev pub feed_fault : Bool → Bool → Bool → Option EditFault
feed_fault known fed fits =
    if not known then Some Unknown
    else if not fed then Some NoFeeder
    else if not fits then Some Range
    else None

-- the first fault of the stages of a node after a change: their order, a stage too short
abbrev pub order_fault : ℕ → List Stage → Option EditFault
order_fault steps stages =
    if not (in_order steps stages) then Some StageOrder
    else if not (have_greens steps stages) then Some LeastGreen
    else None

-- the stages of a node with this change of a stage set
abbrev pub changed : Network → ℕ → ℕ → ℕ → List Stage
changed net node stage change = (set_change stage change (the_node net node)).stages

-- whether there is this node, and it has this stage
abbrev pub has_stage : Network → ℕ → ℕ → Bool
has_stage net node stage = is_among (node_numbers net.nodes) node && within 1 (stages_at net.nodes node) stage

-- the first fault of a change: an unknown node or stage, a range, the plan with the change set
abbrev pub change_fault : Network → ℕ → ℕ → ℕ → Option EditFault
change_fault net node stage change =
    if not (has_stage net node stage) then Some Unknown
    else if not (nat_lt change net.frame.step_count) then Some Range
    else order_fault net.frame.step_count (changed net node stage change)

-- whether this is the number of a link
abbrev pub is_link : Network → ℕ → Bool
is_link net link = is_among (link_numbers net.links) link

-- the first fault of an edit; none where it is allowed
abbrev pub edit_fault : Network → Edit → Option EditFault
edit_fault net (Offset node offset) =
    range_fault (is_among (node_numbers net.nodes) node) (nat_lt offset net.frame.step_count)
edit_fault net (Change node stage change) = change_fault net node stage change
edit_fault net (Entry link flow) = range_fault (is_link net link) (nat_le flow most_flow)
edit_fault net (Part link feeder flow) =
    feed_fault (is_link net link && is_link net feeder) (is_fed (feeds_at net.links link) feeder)
    (nat_le flow most_flow)
edit_fault net (Cruise link feeder seconds) =
    feed_fault (is_link net link && is_link net feeder) (is_fed (feeds_at net.links link) feeder)
    (is_in cruise_range seconds)
edit_fault net (Saturation link flow) = range_fault (is_link net link) (is_in saturation_range flow)
edit_fault net (Weight link weights) = range_fault (is_link net link) (weights_in_range weights)
