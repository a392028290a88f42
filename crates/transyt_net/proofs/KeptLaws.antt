-- An edit keeps the shape.
use Rattle.std.proofs.Common.{◌≡◌, ℕ, map, refl, ap}
use Rattle.transyt_net.specs.Edits.{Edit, Offset, Change, Entry, Part, Cruise, Saturation, Weight, with_edit}
use Rattle.transyt_net.specs.Edits.{set_offset, set_change, set_entry, set_saturation, set_weights, set_part}
use Rattle.transyt_net.specs.Edits.{set_cruise, feeder_of}
use Rattle.transyt_net.specs.Parts.{Network, NodeValue, LinkValue, Feed, shape}
use Rattle.transyt_net.specs.Valid.{on_numbered, node_number, link_number}
use Rattle.transyt_parts.specs.Made.{bare_node, bare_feed, bare_link}
use Rattle.transyt_net.proofs.PlaceLaws.{map_kept}
use Rattle.transyt_net.proofs.ShapeLaws.{change_bare}

node_shape : (net : Network) (f : NodeValue → NodeValue) (same : (n : NodeValue) → bare_node (f n) ≡ bare_node n)
    (node : ℕ)
    → shape (record net { nodes = on_numbered node_number f net.nodes node }) ≡ shape net
node_shape net f same node =
    ap (λ ns. record net { nodes = ns; links = map bare_link net.links })
    (map_kept node_number f bare_node same net.nodes node)

link_shape : (net : Network) (f : LinkValue → LinkValue) (same : (l : LinkValue) → bare_link (f l) ≡ bare_link l)
    (link : ℕ)
    → shape (record net { links = on_numbered link_number f net.links link }) ≡ shape net
link_shape net f same link =
    ap (λ ls. record net { nodes = map bare_node net.nodes; links = ls })
    (map_kept link_number f bare_link same net.links link)

feeds_bare : (g : Feed → Feed) (same : (f : Feed) → bare_feed (g f) ≡ bare_feed f) (feeder : ℕ) (l : LinkValue)
    → bare_link (record l { feeds = on_numbered feeder_of g l.feeds feeder }) ≡ bare_link l
feeds_bare g same feeder l =
    ap (λ fs. record (bare_link l) { feeds = fs }) (map_kept feeder_of g bare_feed same l.feeds feeder)

-- an edit keeps the shape
pub shape_kept : (net : Network) (e : Edit) → shape (with_edit net e) ≡ shape net
shape_kept net (Offset node offset) = node_shape net (set_offset offset) (λ n. refl) node
shape_kept net (Change node stage change) =
    node_shape net (set_change stage change) (change_bare stage change) node
shape_kept net (Entry link flow) = link_shape net (set_entry flow) (λ l. refl) link
shape_kept net (Part link feeder flow) =
    link_shape net (set_part feeder flow) (feeds_bare (λ f. record f { flow = flow }) (λ f. refl) feeder) link
shape_kept net (Cruise link feeder seconds) =
    link_shape net (set_cruise feeder seconds) (feeds_bare (λ f. record f { cruise = seconds }) (λ f. refl) feeder) link
shape_kept net (Saturation link flow) = link_shape net (set_saturation flow) (λ l. refl) link
shape_kept net (Weight link weights) = link_shape net (set_weights weights) (λ l. refl) link
