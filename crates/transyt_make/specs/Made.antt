-- The network that is made from a seed. Places of nodes and links count from 0, in card order.
use Rattle.std.specs.Prelude.{ℕ, zero, suc, ◌+◌, ◌-◌, ◌*◌, ◌/◌, ◌%◌, ◌==◌, Bool, ◌&&◌, nat_le, nat_lt, List, []}
use Rattle.std.specs.Prelude.{◌∷◌, ◌++◌, map, Option, Some, None, is_some, if◌then◌else◌}
use Rattle.std.specs.List.{range_with_len}
use Rattle.std.specs.Option.{option_map_or}
use Rattle.transyt_parts.specs.declared.frame.Frame.{Frame}
use Rattle.transyt_parts.specs.declared.link.Feed.{Feed}
use Rattle.transyt_parts.specs.Parts.{NodeValue, LinkValue, PlanValue}
use Rattle.transyt_parts.specs.Made.{new_stage, new_feed, new_link, new_plan}
use Rattle.transyt_net.specs.Parts.{Network}
use Rattle.transyt_make.specs.Draws.{draw, DrawsValue}

-- the frame
abbrev pub made_frame : Frame
made_frame = record { cycle = 100; step_count = 50; sweeps = 3; period = 60; stop_penalty = 100; dispersion = 35 }

-- the node at a place, of this offset, whose second stage begins at this change
abbrev pub node_with : ℕ → ℕ → ℕ → NodeValue
node_with place offset change =
    record { number = place + 1; offset = offset; stages = new_stage 0 3 4 ∷ new_stage change 3 4 ∷ [] }

-- the node at a place: two draws each, in order
abbrev pub made_node : ℕ → ℕ → NodeValue
made_node seed place = node_with place (draw seed (2 * place) 50) (15 + draw seed (2 * place + 1) 21)

-- the number of the node of a link, from its place: four links a node
abbrev pub node_at : ℕ → ℕ
node_at place = place / 4 + 1

-- which of its node's links it is, 1 to 4
abbrev pub side_at : ℕ → ℕ
side_at place = place % 4 + 1

-- its number
abbrev pub number_at : ℕ → ℕ
number_at place = 10 * node_at place + side_at place

-- the stage in which it runs
abbrev pub stage_at : ℕ → ℕ
stage_at place = if nat_le (side_at place) 2 then 1 else 2

-- the neighbour of node i among n nodes in rows of eight: on side 1 the one before, 2 after, 3 above, 4 below
abbrev pub beside : ℕ → ℕ → ℕ → Option ℕ
beside n i side =
    if side == 1 then (if nat_lt 0 ((i - 1) % 8) then Some (i - 1) else None)
    else if side == 2 then (if nat_lt ((i - 1) % 8) 7 && nat_le (i + 1) n then Some (i + 1) else None)
    else if side == 3 then (if nat_lt 8 i then Some (i - 8) else None)
    else if nat_le (i + 8) n then Some (i + 8) else None

-- the neighbour from which a link comes, if there is one
abbrev pub neighbour : ℕ → ℕ → Option ℕ
neighbour n place = beside n (node_at place) (side_at place)

-- the entry flow of a link, by draw number k: less where there is a neighbour
abbrev pub entry_from : ℕ → ℕ → Bool → ℕ
entry_from seed k fed = if fed then draw seed k 41 else 300 + draw seed k 201

-- the link at a place with this entry flow, without its feeds
abbrev pub link_with : ℕ → ℕ → LinkValue
link_with place entry = new_link (number_at place) (node_at place) entry 1800 1 1 0 0 (stage_at place ∷ [])

-- a link without its feeds: its entry flow takes one draw, after those of the nodes
abbrev pub bare_link : ℕ → ℕ → ℕ → LinkValue
bare_link seed n place = link_with place (entry_from seed (2 * n + place) (is_some (neighbour n place)))

-- how many links before a place have a neighbour
abbrev pub fed_before : ℕ → ℕ → ℕ
fed_before n zero = 0
fed_before n (suc place) = fed_before n place + (if is_some (neighbour n place) then 1 else 0)

-- the first of the two links of a neighbour that turn into a link on this side
abbrev pub turning : ℕ → ℕ
turning side = if nat_le side 2 then 3 else 1

-- the feeds of a link on a side from neighbour j: four draws from number k on
abbrev pub feeds_from : ℕ → ℕ → ℕ → ℕ → List Feed
feeds_from seed k side j =
    new_feed (10 * j + side) (240 + draw seed (k + 1) 41) (15 + draw seed k 16)
    ∷ new_feed (10 * j + turning side) (60 + draw seed (k + 2) 41) (15 + draw seed k 16)
    ∷ new_feed (10 * j + turning side + 1) (60 + draw seed (k + 3) 41) (15 + draw seed k 16) ∷ []

-- the link at a place among n nodes: the draws of feeds come after those of the entry flows, four for each neighbour
abbrev pub made_link : ℕ → ℕ → ℕ → LinkValue
made_link seed n place = record (bare_link seed n place) {
  feeds = option_map_or (feeds_from seed (6 * n + 4 * fed_before n place) (side_at place)) (neighbour n place) [];
}

-- the climb plan
abbrev pub made_plan : PlanValue
made_plan = new_plan 2000 (1 ∷ 8 ∷ 20 ∷ [])

-- n nodes and these links, with no climb plan yet
abbrev pub unplanned : ℕ → ℕ → List LinkValue → Network
unplanned seed n links =
    record { frame = made_frame; nodes = map (made_node seed) (range_with_len 0 n); links = links; plan = None }

-- the network of n nodes
unfoldable pub made : ℕ → ℕ → Network
made seed n = record (unplanned seed n (map (made_link seed n) (range_with_len 0 (4 * n)))) { plan = Some made_plan }

-- all nodes, and so many links without their feeds
abbrev pub with_links : ℕ → ℕ → ℕ → Network
with_links seed n k = unplanned seed n (map (bare_link seed n) (range_with_len 0 k))

-- all links, and the feeds of the first k
abbrev pub with_feeds : ℕ → ℕ → ℕ → Network
with_feeds seed n k =
    unplanned seed n (map (made_link seed n) (range_with_len 0 k) ++ map (bare_link seed n) (range_with_len k (4 * n - k)))

-- a seed and the draws that are taken when the feeds of so many links are made
abbrev pub draws_by : ℕ → ℕ → ℕ → DrawsValue
draws_by seed n k = record { seed = seed; taken = 6 * n + 4 * fed_before n k }
