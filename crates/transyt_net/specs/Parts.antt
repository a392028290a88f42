-- A network of its parts as contracts see it, its flows and its shape.
use Rattle.std.specs.Prelude.{ℕ, List, [], Option, unwrap_or, slice_index_or, ◌*◌, ◌/◌, ◌≡◌, map}
use Rattle.transyt_parts.specs.Made.{new_node, new_link, bare_node, bare_link}
use Rattle.transyt_parts.specs.declared.frame.Frame.{Frame}
pub use Rattle.transyt_parts.specs.declared.frame.Frame.{Frame}
pub use Rattle.transyt_parts.specs.declared.node.Stage.{Stage}
pub use Rattle.transyt_parts.specs.declared.link.Feed.{Feed}
pub use Rattle.transyt_parts.specs.declared.link.GiveWay.{GiveWay}
pub use Rattle.transyt_parts.specs.declared.link.Weights.{Weights}
pub use Rattle.transyt_parts.specs.Parts.{NodeValue, LinkValue, PlanValue}

-- a network: its nodes and links in card order, and its climb plan if there is one
pub record Network : Type 0 where
  pub frame : Frame
  pub nodes : List NodeValue
  pub links : List LinkValue
  pub plan : Option PlanValue

-- the network of these parts
abbrev pub network_of : Frame → List NodeValue → List LinkValue → Option PlanValue → Network
network_of frame nodes links plan = record { frame = frame; nodes = nodes; links = links; plan = plan }

-- a network with this cycle
abbrev pub with_cycle : Network → ℕ → Network
with_cycle net cycle = record net { frame = record net.frame { cycle = cycle } }

-- a network with this frame and these nodes
abbrev pub with_signals : Network → Frame → List NodeValue → Network
with_signals net frame nodes = record net { frame = frame; nodes = nodes }

-- the node at a place that has none
abbrev pub no_node : NodeValue
no_node = new_node 0 0

-- the link at a place that has none
abbrev pub no_link : LinkValue
no_link = new_link 0 0 0 0 0 0 0 0 []

-- the node that was found, or none
abbrev pub node_in : Option NodeValue → NodeValue
node_in found = unwrap_or found no_node

-- the link that was found, or none
abbrev pub link_in : Option LinkValue → LinkValue
link_in found = unwrap_or found no_link

-- the node at a place
abbrev pub node_of : Network → ℕ → NodeValue
node_of net p = slice_index_or net.nodes p no_node

-- the link at a place
abbrev pub link_of : Network → ℕ → LinkValue
link_of net p = slice_index_or net.links p no_link

-- vehicles per hour as units per step, rounded down
abbrev pub perstep : Frame → ℕ → ℕ
perstep frame q = q * frame.cycle * 1000000 / (3600 * frame.step_count)

-- the shape of a network: each number that an edit sets put to 0
abbrev pub shape : Network → Network
shape net = record net { nodes = map bare_node net.nodes; links = map bare_link net.links }

-- the two differ at most in numbers that an edit sets
abbrev pub SameShape : Network → Network → Type 0
SameShape a b = shape a ≡ shape b
