-- The own data of a link: all that edits change of its work, departures and weights apart; and which links it reads.
use Rattle.std.specs.Prelude.{◌≡◌, ℕ, ◌<◌, Bool, ◌&&◌, nat_eq, List, length, map, Option, slice_index_or}
use Rattle.std.specs.Prelude.{All, IfSome, option_to_list, ◌++◌}
use Rattle.std.specs.Str.{bytes_eq}
use Rattle.std.specs.List.{range_with_len}
use Rattle.std.specs.Option.{option_map}
use Rattle.transyt_parts.specs.declared.node.Stage.{Stage}
use Rattle.transyt_parts.specs.declared.link.Feed.{Feed}
use Rattle.transyt_parts.specs.declared.link.GiveWay.{GiveWay}
use Rattle.transyt_parts.specs.Parts.{total_flow, NodeValue, LinkValue}
use Rattle.transyt_net.specs.Parts.{Network, node_of, link_of}
use Rattle.transyt_net.specs.Edits.{the_node}
use Rattle.transyt_net.specs.Valid.{place_of, node_numbers, found_or_first, link_place}

-- the own data of a link; the offset and the changes are those of its node, the flows and cruise times those of its
-- feeds in order, and the totals the total flows of its feeders
pub record Own : Type 0 where
  pub entry : ℕ
  pub saturation : ℕ
  pub offset : ℕ
  pub changes : List ℕ
  pub flows : List ℕ
  pub cruises : List ℕ
  pub totals : List ℕ

-- a stage's change
abbrev pub change_of : Stage → ℕ
change_of stage = stage.change

-- a feed's flow
abbrev pub flow_of : Feed → ℕ
flow_of feed = feed.flow

-- a feed's cruise time
abbrev pub cruise_of : Feed → ℕ
cruise_of feed = feed.cruise

-- the place of the link that a feed comes from
abbrev pub feeder_place : Network → Feed → ℕ
feeder_place net feed = link_place net feed.feeder

-- the total flow of the link that a feed comes from
abbrev pub feeder_total : Network → Feed → ℕ
feeder_total net feed = total_flow (link_of net (feeder_place net feed))

-- the own data of the link at a place
abbrev pub own : Network → ℕ → Own
own net link = record {
  entry = (link_of net link).entry;
  saturation = (link_of net link).saturation;
  offset = (the_node net (link_of net link).node).offset;
  changes = map change_of (the_node net (link_of net link).node).stages;
  flows = map flow_of (link_of net link).feeds;
  cruises = map cruise_of (link_of net link).feeds;
  totals = map (feeder_total net) (link_of net link).feeds;
}

-- two links have equal own data
abbrev pub same_own : Own → Own → Bool
same_own one other =
    nat_eq one.entry other.entry && nat_eq one.saturation other.saturation && nat_eq one.offset other.offset
    && bytes_eq one.changes other.changes && bytes_eq one.flows other.flows && bytes_eq one.cruises other.cruises
    && bytes_eq one.totals other.totals

-- two nodes have equal offsets and equal changes
pub record SameTimes (old new : NodeValue) : Type 0 where
  pub offset : old.offset ≡ new.offset
  pub changes : map change_of old.stages ≡ map change_of new.stages

-- two links have equal flows, and feeds of equal flows and cruise times
pub record SameNumbers (old new : LinkValue) : Type 0 where
  pub entry : old.entry ≡ new.entry
  pub saturation : old.saturation ≡ new.saturation
  pub flows : map flow_of old.feeds ≡ map flow_of new.feeds
  pub cruises : map cruise_of old.feeds ≡ map cruise_of new.feeds

-- the node at a place has equal times in two networks
abbrev pub HaveNode : Network → Network → ℕ → Type 0
HaveNode before after place = SameTimes (node_of before place) (node_of after place)

-- a link has equal own data in two networks, the total flows of its feeders apart
pub record HaveData (before after : Network) (link : ℕ) : Type 0 where
  pub numbers : SameNumbers (link_of before link) (link_of after link)
  pub times : SameTimes (the_node before (link_of before link).node) (the_node after (link_of after link).node)

-- two networks differ at most in the times of the node at this place
pub record DifferAt (place : ℕ) (before after : Network) : Type 0 where
  pub inside : place < length after.nodes
  pub links : before.links ≡ after.links
  pub nodes : (other : ℕ) → (other ≡ place → ⊥) → HaveNode before after other

-- the place of the link to which a rule gives way
abbrev pub rule_place : Network → Option GiveWay → Option ℕ
rule_place net rule = option_map (λ way. link_place net way.other) rule

-- the place of a node's number
abbrev pub node_place : Network → ℕ → ℕ
node_place net number = found_or_first (place_of (node_numbers net.nodes) number)

-- where the node of a link stands, its feeders in order, and the link to which it gives way
pub record PlacesValue : Type 0 where
  pub node : ℕ
  pub feeders : List ℕ
  pub rule : Option ℕ

-- the places of all that a link reads: its feeders, and then the link to which it gives way
abbrev pub read_places : PlacesValue → List ℕ
read_places places = places.feeders ++ option_to_list places.rule

-- the places of the link at a place
abbrev pub places_at : Network → ℕ → PlacesValue
places_at net link = record {
  node = node_place net (link_of net link).node;
  feeders = map (feeder_place net) (link_of net link).feeds;
  rule = rule_place net (link_of net link).gives_way;
}

-- a link's places in two networks of one shape, whose feeders and rule are links
pub record IsRead (before after : Network) (link : ℕ) (places : PlacesValue) : Type 0 where
  pub inside_before : link < length before.links
  pub inside : link < length after.links
  pub places_before : places ≡ places_at before link
  pub places_after : places ≡ places_at after link
  pub feeders : All (λ place. place < length after.links) places.feeders
  pub rule : IfSome places.rule (λ place. place < length after.links)

-- the places of all links
abbrev pub all_places : Network → List PlacesValue
all_places net = map (places_at net) (range_with_len 0 (length net.links))

-- these are the places of the links, one after another
pub record ArePlaces (net : Network) (places : List PlacesValue) : Type 0 where
  pub count : length places ≡ length net.links
  pub at : (link : ℕ) → link < length net.links → slice_index_or places link (places_at net link) ≡ places_at net link
