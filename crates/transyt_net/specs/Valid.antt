-- Valid networks, and the part that a card number names.
use Rattle.std.specs.Prelude.{suc, zero, ◌≡◌, ℕ, ◌<◌, ◌≤◌, Bool, nat_eq, List, [], ◌∷◌, length, map}
use Rattle.std.specs.Prelude.{Option, Some, None, IfSome, All, position, IsTrue, if◌then◌else◌}
use Rattle.std.specs.List.{list_any}
use Rattle.transyt_net.specs.Parts.{Network, node_in, link_in, NodeValue, LinkValue, Feed, GiveWay}
use Rattle.transyt_parts.specs.Plan.{plan_fault}
use Rattle.transyt_parts.specs.Ranges.{IsIn, IsWithin, number_range, most_flow, saturation_range}
use Rattle.transyt_parts.specs.Ranges.{cruise_range, most_percent, most_stages}
pub use Rattle.transyt_parts.specs.Valid.{AreWeights, IsFrame, IsNode, IsPlan, IsStage, all_differ, feed_in_range}
pub use Rattle.transyt_parts.specs.Valid.{feeders, is_fed, is_frame, link_in_range, link_number, node_in_range}
pub use Rattle.transyt_parts.specs.Valid.{node_number, stage_in_range, within}

-- the nodes' card numbers in order
abbrev pub node_numbers : List NodeValue → List ℕ
node_numbers nodes = map node_number nodes

-- the links' card numbers in order
abbrev pub link_numbers : List LinkValue → List ℕ
link_numbers links = map link_number links

-- the first place of a number
abbrev pub place_of : List ℕ → ℕ → Option ℕ
place_of numbers number = position (nat_eq number) numbers

-- a place that was found, else the first
abbrev pub found_or_first : Option ℕ → ℕ
found_or_first None = 0
found_or_first (Some p) = p

-- the place of the link of this number; 0 where there is none
abbrev pub link_place : Network → ℕ → ℕ
link_place net number = found_or_first (place_of (link_numbers net.links) number)

-- the first whose number this is
abbrev pub numbered : {A : Type 0} → (A → ℕ) → List A → ℕ → Option A
numbered key [] k = None
numbered key (x ∷ xs) k = if nat_eq k (key x) then Some x else numbered key xs k

-- the list, with f done to the first whose number this is
abbrev pub on_numbered : {A : Type 0} → (A → ℕ) → (A → A) → List A → ℕ → List A
on_numbered key f [] k = []
on_numbered key f (x ∷ xs) k = if nat_eq k (key x) then f x ∷ xs else x ∷ on_numbered key f xs k

-- the list, with f done at a place
abbrev pub on_place : {A : Type 0} → (A → A) → List A → ℕ → List A
on_place f [] p = []
on_place f (x ∷ xs) zero = f x ∷ xs
on_place f (x ∷ xs) (suc p) = x ∷ on_place f xs p

-- how many stages a node has; 0 where there is none
abbrev pub stage_total : Option NodeValue → ℕ
stage_total o = length (node_in o).stages

-- how many stages the node of this number has; 0 where there is no such node
abbrev pub stages_at : List NodeValue → ℕ → ℕ
stages_at nodes number = stage_total (numbered node_number nodes number)

-- the feeds of the link of this number; none where there is no such link
abbrev pub feeds_at : List LinkValue → ℕ → List Feed
feeds_at links number = (link_in (numbered link_number links number)).feeds

-- the give-way rule of the link of this number; none where there is no such link
abbrev pub rule_at : List LinkValue → ℕ → Option GiveWay
rule_at links number = (link_in (numbered link_number links number)).gives_way

-- whether a number is among these
abbrev pub is_among : List ℕ → ℕ → Bool
is_among numbers number = list_any (nat_eq number) numbers

-- a valid feed
pub record IsFeed (numbers : List ℕ) (f : Feed) : Type 0 where
  pub feeder : IsTrue (is_among numbers f.feeder)
  pub flow : f.flow ≤ most_flow
  pub cruise : IsIn cruise_range f.cruise

-- a valid give-way rule
pub record IsRule (numbers : List ℕ) (r : GiveWay) : Type 0 where
  pub other : IsTrue (is_among numbers r.other)
  pub percent : r.percent ≤ most_percent

-- a valid link, among these nodes and link numbers
pub record IsLink (steps : ℕ) (nodes : List NodeValue) (numbers : List ℕ) (l : LinkValue) : Type 0 where
  pub number : IsIn number_range l.number
  pub node : IsTrue (is_among (node_numbers nodes) l.node)
  pub entry : l.entry ≤ most_flow
  pub saturation : IsIn saturation_range l.saturation
  pub weights : AreWeights l.weights
  pub start_lag : l.start_lag < steps
  pub end_lag : l.end_lag < steps
  pub stage_count : IsWithin 1 most_stages (length l.stages)
  pub stages_differ : IsTrue (all_differ l.stages)
  pub stages : All (λ k. (1 ≤ k) × (k ≤ stages_at nodes l.node)) l.stages
  pub feed_count : length l.feeds ≤ 8
  pub feeders_differ : IsTrue (all_differ (feeders l.feeds))
  pub feeds : All (IsFeed numbers) l.feeds
  pub rule : IfSome l.gives_way (IsRule numbers)

-- a valid network, but for its stage plans
pub record IsSound (net : Network) : Type 0 where
  pub frame : IsFrame net.frame
  pub node_count : length net.nodes ≤ 200
  pub nodes_differ : IsTrue (all_differ (node_numbers net.nodes))
  pub nodes : All (IsNode net.frame.step_count) net.nodes
  pub link_count : length net.links ≤ 1000
  pub links_differ : IsTrue (all_differ (link_numbers net.links))
  pub links : All (IsLink net.frame.step_count net.nodes (link_numbers net.links)) net.links
  pub plan : IfSome net.plan (IsPlan net.frame.step_count)

-- a valid network: a sound one in which no node has a fault in its plan
pub record IsValid (net : Network) : Type 0 where
  pub sound : IsSound net
  pub planned : All (λ n. plan_fault net.frame.step_count n.stages ≡ None) net.nodes
