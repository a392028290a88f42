-- Worked faults of edits and of a draft's calls, at each limit and one past it, and numbers of the worked network.
use Rattle.std.specs.Prelude.{ℕ, List, [], ◌∷◌, Option, Some, None, replicate}
use Rattle.transyt_parts.specs.declared.link.Feed.{Feed}
use Rattle.transyt_parts.specs.declared.link.GiveWay.{GiveWay}
use Rattle.transyt_net.specs.Parts.{Network, node_of, link_of, NodeValue, LinkValue, perstep}
use Rattle.transyt_parts.specs.Made.{new_stage, new_feed, new_rule, new_plan, new_link, new_weights}
use Rattle.transyt_net.specs.Valid.{place_of, link_place, link_numbers, stages_at, feeds_at, rule_at}
use Rattle.transyt_net.specs.Edits.{Edit, Offset, Change, Entry, Part, Cruise, Saturation, Weight, the_node, the_link}
use Rattle.transyt_net.specs.declared.edit.EditFault.{EditFault}
use Rattle.transyt_net.specs.declared.edit.EditFault.TheVariants as edit
use Rattle.transyt_net.specs.declared.draft.DraftFault.{DraftFault}
use Rattle.transyt_net.specs.declared.draft.DraftFault.TheVariants as draft
use Rattle.transyt_net.specs.Faults.{node_fault, stage_fault, link_fault, feed_fault, rule_fault, climb_fault}
use Rattle.transyt_net.specs.WorkedNets.{frame, town}

-- edits, with the fault of each on the worked network
abbrev pub edits : List (Edit × Option EditFault)
edits =
    (Offset 21 17, None) ∷ (Offset 21 18, Some edit.Range) ∷ (Offset 5 18, Some edit.Unknown)
    ∷ (Change 21 1 3, None) ∷ (Change 21 3 17, None) ∷ (Change 21 0 3, Some edit.Unknown)
    ∷ (Change 21 4 3, Some edit.Unknown) ∷ (Change 22 1 18, Some edit.Unknown) ∷ (Change 21 1 18, Some edit.Range)
    ∷ (Change 21 2 16, Some edit.StageOrder) ∷ (Change 21 2 5, Some edit.LeastGreen) ∷ (Change 21 2 6, None)
    ∷ (Change 21 3 14, None) ∷ (Change 21 3 13, Some edit.LeastGreen)
    ∷ (Change 7 1 4, None) ∷ (Change 7 1 3, Some edit.LeastGreen)
    ∷ (Entry 4 9999, None) ∷ (Entry 4 10000, Some edit.Range) ∷ (Entry 21 10000, Some edit.Unknown)
    ∷ (Part 4 5 9999, None) ∷ (Part 4 5 10000, Some edit.Range) ∷ (Part 4 4 10000, Some edit.NoFeeder)
    ∷ (Part 5 4 9, Some edit.NoFeeder) ∷ (Part 4 21 9, Some edit.Unknown) ∷ (Part 21 5 9, Some edit.Unknown)
    ∷ (Cruise 4 9 1, None) ∷ (Cruise 4 9 0, Some edit.Range) ∷ (Cruise 4 9 300, None)
    ∷ (Cruise 4 9 301, Some edit.Range) ∷ (Cruise 5 9 301, Some edit.NoFeeder) ∷ (Cruise 4 7 1, Some edit.Unknown)
    ∷ (Cruise 21 5 9, Some edit.Unknown)
    ∷ (Saturation 9 100, None) ∷ (Saturation 9 99, Some edit.Range) ∷ (Saturation 9 9999, None)
    ∷ (Saturation 9 10000, Some edit.Range) ∷ (Saturation 7 10000, Some edit.Unknown)
    ∷ (Weight 5 (new_weights 999 999), None) ∷ (Weight 5 (new_weights 1000 0), Some edit.Range) ∷ (Weight 5 (new_weights 0 1000), Some edit.Range)
    ∷ (Weight 7 (new_weights 0 0), Some edit.Unknown) ∷ []

-- the worked network with these nodes
abbrev pub with_nodes : List NodeValue → Network
with_nodes nodes = record town { nodes = nodes }

-- a node with so many stages
abbrev pub with_stages : ℕ → NodeValue
with_stages n = record { number = 8; offset = 3; stages = replicate n (new_stage 2 1 3) }

-- new nodes and stages, with the fault of each
abbrev pub nodes : List (Option DraftFault × Option DraftFault)
nodes =
    (node_fault town 21 18, Some draft.Twice) ∷ (node_fault town 5 18, Some draft.Range)
    ∷ (node_fault town 5 17, None) ∷ (node_fault town 0 17, Some draft.Range) ∷ (node_fault town 1 17, None)
    ∷ (node_fault town 99999 17, None) ∷ (node_fault town 100000 17, Some draft.Range)
    ∷ (node_fault (with_nodes (replicate 199 (with_stages 2))) 5 17, None)
    ∷ (node_fault (with_nodes (replicate 200 (with_stages 2))) 5 17, Some draft.TooMany)
    ∷ (node_fault (with_nodes (replicate 200 (with_stages 2))) 5 18, Some draft.Range)
    ∷ (stage_fault town (new_stage 17 17 18), None) ∷ (stage_fault town (new_stage 18 0 1), Some draft.Range)
    ∷ (stage_fault town (new_stage 0 18 1), Some draft.Range) ∷ (stage_fault town (new_stage 0 0 0), Some draft.Range)
    ∷ (stage_fault town (new_stage 0 0 19), Some draft.Range)
    ∷ (stage_fault (with_nodes (with_stages 8 ∷ with_stages 7 ∷ [])) (new_stage 17 1 2), None)
    ∷ (stage_fault (with_nodes (with_stages 7 ∷ with_stages 8 ∷ [])) (new_stage 17 1 2), Some draft.TooMany)
    ∷ (stage_fault (with_nodes (with_stages 8 ∷ [])) (new_stage 18 1 2), Some draft.Range)
    ∷ []

-- a link of node 21 that runs in stages 3 and 1
abbrev pub new : ℕ → LinkValue
new number = new_link number 21 9999 9999 999 999 17 17 (3 ∷ 1 ∷ [])

-- the worked network with these links
abbrev pub with_links : List LinkValue → Network
with_links links = record town { links = links }

-- new links, with the fault of each
abbrev pub links : List (Option DraftFault × Option DraftFault)
links =
    (link_fault town (new 99999), None) ∷ (link_fault town (new 9), Some draft.Twice)
    ∷ (link_fault town (record (new 6) { stages = 3 ∷ 3 ∷ [] }), Some draft.Twice)
    ∷ (link_fault town (record (new 6) { stages = 9 ∷ 9 ∷ [] }), Some draft.Twice)
    ∷ (link_fault town (record (new 6) { stages = 3 ∷ 0 ∷ [] }), Some draft.Unknown)
    ∷ (link_fault town (record (new 6) { stages = 4 ∷ 3 ∷ [] }), Some draft.Unknown)
    ∷ (link_fault town (record (new 0) { node = 5 }), Some draft.Unknown)
    ∷ (link_fault town (record (new 6) { node = 7 }), Some draft.Unknown)
    ∷ (link_fault town (new 0), Some draft.Range) ∷ (link_fault town (new 100000), Some draft.Range)
    ∷ (link_fault town (record (new 6) { entry = 10000 }), Some draft.Range)
    ∷ (link_fault town (record (new 6) { saturation = 10000 }), Some draft.Range)
    ∷ (link_fault town (record (new 6) { saturation = 99 }), Some draft.Range)
    ∷ (link_fault town (record (new 6) { saturation = 100 }), None)
    ∷ (link_fault town (record (new 6) { weights = new_weights 1000 999 }), Some draft.Range)
    ∷ (link_fault town (record (new 6) { weights = new_weights 999 1000 }), Some draft.Range)
    ∷ (link_fault town (record (new 6) { start_lag = 18 }), Some draft.Range)
    ∷ (link_fault town (record (new 6) { end_lag = 18 }), Some draft.Range)
    ∷ (link_fault (with_links (replicate 999 (new 5))) (new 6), None)
    ∷ (link_fault (with_links (replicate 1000 (new 5))) (new 6), Some draft.TooMany)
    ∷ (link_fault (with_links (replicate 1000 (new 5))) (new 0), Some draft.Range)
    ∷ []

-- a link with so many feeds
abbrev pub fed : ℕ → LinkValue
fed n = record (new 6) { feeds = replicate n (new_feed 4 311 23) }

-- new feeds, rules and climb plans, with the fault of each
abbrev pub others : List (Option DraftFault × Option DraftFault)
others =
    (feed_fault town 5 (new_feed 4 9999 300), None) ∷ (feed_fault town 4 (new_feed 5 10000 23), Some draft.Twice)
    ∷ (feed_fault town 4 (new_feed 21 10000 23), Some draft.Unknown)
    ∷ (feed_fault town 21 (new_feed 5 9 23), Some draft.Unknown)
    ∷ (feed_fault town 5 (new_feed 4 10000 300), Some draft.Range)
    ∷ (feed_fault town 5 (new_feed 4 9 0), Some draft.Range) ∷ (feed_fault town 5 (new_feed 4 9 301), Some draft.Range)
    ∷ (feed_fault town 5 (new_feed 5 0 1), None)
    ∷ (feed_fault (with_links (fed 7 ∷ [])) 6 (new_feed 6 9 23), None)
    ∷ (feed_fault (with_links (fed 8 ∷ [])) 6 (new_feed 6 9 23), Some draft.TooMany)
    ∷ (feed_fault (with_links (fed 8 ∷ [])) 6 (new_feed 6 9 0), Some draft.Range)
    ∷ (rule_fault town 5 (new_rule 4 400), None) ∷ (rule_fault town 5 (new_rule 4 401), Some draft.Range)
    ∷ (rule_fault town 4 (new_rule 21 35), Some draft.Twice) ∷ (rule_fault town 5 (new_rule 21 401), Some draft.Unknown)
    ∷ (rule_fault town 21 (new_rule 5 35), Some draft.Unknown)
    ∷ (climb_fault town (new_plan 1 (17 ∷ 1 ∷ [])), None) ∷ (climb_fault town (new_plan 1000000 (1 ∷ [])), None)
    ∷ (climb_fault town (new_plan 0 (1 ∷ [])), Some draft.Range)
    ∷ (climb_fault town (new_plan 1000001 (1 ∷ [])), Some draft.Range)
    ∷ (climb_fault town (new_plan 250 (1 ∷ 18 ∷ [])), Some draft.Range)
    ∷ (climb_fault town (new_plan 250 (0 ∷ 1 ∷ [])), Some draft.Range)
    ∷ []

-- units per step, and places, counts and names of the worked network
abbrev pub numbers : List ℕ
numbers =
    perstep frame 431 ∷ perstep frame 100000 ∷ link_place town 5 ∷ link_place town 9 ∷ link_place town 4
    ∷ link_place town 7 ∷ stages_at town.nodes 21 ∷ stages_at town.nodes 7 ∷ stages_at town.nodes 5
    ∷ (node_of town 1).number ∷ (link_of town 2).number ∷ (the_node town 7).offset ∷ (the_link town 9).entry ∷ []

-- places by number
abbrev pub places : List (Option ℕ)
places = place_of (link_numbers town.links) 5 ∷ place_of (link_numbers town.links) 4 ∷ place_of (link_numbers town.links) 7
    ∷ []

-- feeds and rules by number
abbrev pub feeds : List (List Feed)
feeds = feeds_at town.links 4 ∷ feeds_at town.links 5 ∷ feeds_at town.links 7 ∷ []

-- rules by number
abbrev pub rules : List (Option GiveWay)
rules = rule_at town.links 4 ∷ rule_at town.links 5 ∷ rule_at town.links 7 ∷ []

-- the worked network with a link that runs in no stage
abbrev pub stageless : Network
stageless = with_links (record (new 6) { stages = [] } ∷ [])
