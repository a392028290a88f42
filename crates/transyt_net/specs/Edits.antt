-- Edits: the parts that they name, what each does, and the edit that takes it back.
use Rattle.std.specs.Prelude.{ℕ, unwrap_or, ◌-◌}
use Rattle.transyt_net.specs.Parts.{Network, NodeValue, LinkValue, Feed, Stage, Weights}
use Rattle.transyt_net.specs.Valid.{numbered, node_number, link_number, on_numbered, on_place}
use Rattle.transyt_parts.specs.Plan.{stage_of}
pub use Rattle.transyt_net.specs.Parts.{node_in, link_in}
pub use Rattle.transyt_net.specs.declared.edit.Edit.{Edit}
pub use Rattle.transyt_net.specs.declared.edit.Edit.TheVariants.{Offset, Change, Entry, Part, Cruise, Saturation, Weight}

-- a feed's feeder
abbrev pub feeder_of : Feed → ℕ
feeder_of f = f.feeder

-- the feed that is found where there is none
abbrev pub no_feed : Feed
no_feed = record { feeder = 0; flow = 0; cruise = 0 }

-- the node of a number
abbrev pub the_node : Network → ℕ → NodeValue
the_node net node = node_in (numbered node_number net.nodes node)

-- the link of a number
abbrev pub the_link : Network → ℕ → LinkValue
the_link net link = link_in (numbered link_number net.links link)

-- the feed of a link with this feeder
abbrev pub the_feed : LinkValue → ℕ → Feed
the_feed l feeder = unwrap_or (numbered feeder_of l.feeds feeder) no_feed

-- the node with this offset
abbrev pub set_offset : ℕ → NodeValue → NodeValue
set_offset offset n = record n { offset = offset }

-- the stage with this change
abbrev pub change_to : ℕ → Stage → Stage
change_to change s = record s { change = change }

-- the node with this change of a stage, which is numbered from 1
abbrev pub set_change : ℕ → ℕ → NodeValue → NodeValue
set_change stage change n = record n { stages = on_place (change_to change) n.stages (stage - 1) }

-- the link with this entry flow
abbrev pub set_entry : ℕ → LinkValue → LinkValue
set_entry flow l = record l { entry = flow }

-- the link with this saturation flow
abbrev pub set_saturation : ℕ → LinkValue → LinkValue
set_saturation flow l = record l { saturation = flow }

-- the link with these weights
abbrev pub set_weights : Weights → LinkValue → LinkValue
set_weights weights l = record l { weights = weights }

-- the link with this flow from a feeder
abbrev pub set_part : ℕ → ℕ → LinkValue → LinkValue
set_part feeder flow l = record l { feeds = on_numbered feeder_of (λ f. record f { flow = flow }) l.feeds feeder }

-- the link with this cruise time from a feeder
abbrev pub set_cruise : ℕ → ℕ → LinkValue → LinkValue
set_cruise feeder seconds l =
    record l { feeds = on_numbered feeder_of (λ f. record f { cruise = seconds }) l.feeds feeder }

-- the part that an edit names: a node or a link, by its card number
pub data Named : Type 0 where
  NamesNode : ℕ → Named
  NamesLink : ℕ → Named

-- the part that this edit names
abbrev pub named : Edit → Named
named (Offset node offset) = NamesNode node
named (Change node stage change) = NamesNode node
named (Entry link flow) = NamesLink link
named (Part link feeder flow) = NamesLink link
named (Cruise link feeder seconds) = NamesLink link
named (Saturation link flow) = NamesLink link
named (Weight link weights) = NamesLink link

-- the node that an edit names, after it
abbrev pub node_edit : Edit → NodeValue → NodeValue
node_edit (Offset node offset) n = set_offset offset n
node_edit (Change node stage change) n = set_change stage change n
node_edit e n = n

-- the link that an edit names, after it
abbrev pub link_edit : Edit → LinkValue → LinkValue
link_edit (Entry link flow) l = set_entry flow l
link_edit (Part link feeder flow) l = set_part feeder flow l
link_edit (Cruise link feeder seconds) l = set_cruise feeder seconds l
link_edit (Saturation link flow) l = set_saturation flow l
link_edit (Weight link weights) l = set_weights weights l
link_edit e l = l

-- the network with an edit of what it names made
abbrev pub edited : Network → Edit → Named → Network
edited net e (NamesNode node) = record net { nodes = on_numbered node_number (node_edit e) net.nodes node }
edited net e (NamesLink link) = record net { links = on_numbered link_number (link_edit e) net.links link }

-- the network with an edit made
abbrev pub with_edit : Network → Edit → Network
with_edit net e = edited net e (named e)

-- the edit of the same kind and names with a node's present numbers
abbrev pub node_back : Edit → NodeValue → Edit
node_back (Offset node offset) n = Offset node n.offset
node_back (Change node stage change) n = Change node stage (stage_of n.stages (stage - 1)).change
node_back e n = e

-- the edit of the same kind and names with a link's present numbers
abbrev pub link_back : Edit → LinkValue → Edit
link_back (Entry link flow) l = Entry link l.entry
link_back (Part link feeder flow) l = Part link feeder (the_feed l feeder).flow
link_back (Cruise link feeder seconds) l = Cruise link feeder (the_feed l feeder).cruise
link_back (Saturation link flow) l = Saturation link l.saturation
link_back (Weight link weights) l = Weight link l.weights
link_back e l = e

-- the same edit of what it names, with the present numbers of that
abbrev pub back_to : Network → Edit → Named → Edit
back_to net e (NamesNode node) = node_back e (the_node net node)
back_to net e (NamesLink link) = link_back e (the_link net link)

-- the inverse of an edit on a network
abbrev pub inverse : Network → Edit → Edit
inverse net e = back_to net e (named e)
