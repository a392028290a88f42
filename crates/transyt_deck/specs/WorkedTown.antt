-- A worked deck with every card, no number of which is neutral: its lines, its network, and the text of that.
use Rattle.std.specs.Prelude.{List, [], ◌∷◌, ◌++◌, codes, take, ℕ, Option, Some, None}
use Rattle.transyt_parts.specs.declared.link.Feed.{Feed}
use Rattle.transyt_parts.specs.declared.link.GiveWay.{GiveWay}
use Rattle.transyt_parts.specs.Made.{new_feed, new_link, new_plan, new_rule, new_stage}
use Rattle.transyt_parts.specs.Parts.{LinkValue, NodeValue}
use Rattle.transyt_net.specs.Parts.{Network}

-- the lines of the deck, of form 2, with its FEED and YIELD cards mixed
abbrev pub town : List (List ℕ)
town =
    codes "FORM 2" ∷ codes "CYCLE 90 18 3 45 37 40" ∷ codes "NODE 21 4" ∷ codes "STAGE 2 1 3" ∷ codes "STAGE 8 2 4"
    ∷ codes "STAGE 15 0 1" ∷ codes "NODE 7 17" ∷ codes "STAGE 5 3 2" ∷ codes "STAGE 16 1 5" ∷ codes "NODE 300 11"
    ∷ codes "STAGE 3 1 2" ∷ codes "STAGE 7 2 3" ∷ codes "STAGE 12 0 1" ∷ codes "STAGE 14 3 4"
    ∷ codes "LINK 5 21 431 1733 3 2 1 2 1" ∷ codes "LINK 2 21 97 1619 5 7 0 1 2 3"
    ∷ codes "LINK 9 7 613 1877 2 11 2 0 2" ∷ codes "LINK 4 7 0 1451 4 1 0 0 1"
    ∷ codes "LINK 8 300 229 1999 6 5 1 1 1 3" ∷ codes "LINK 3 300 877 1201 1 9 0 0 4"
    ∷ codes "LINK 6 300 53 1327 7 3 3 4 2" ∷ codes "LINK 11 21 151 907 9 4 0 0 1 2 3" ∷ codes "FEED 4 5 311 23"
    ∷ codes "FEED 8 9 402 47" ∷ codes "YIELD 4 9 35" ∷ codes "FEED 4 2 77 61" ∷ codes "FEED 5 8 173 38"
    ∷ codes "FEED 8 3 219 300" ∷ codes "FEED 6 6 41 17" ∷ codes "YIELD 11 5 150" ∷ codes "FEED 11 4 88 9"
    ∷ codes "FEED 11 3 60 111" ∷ codes "STEPS 250 4 1 7" ∷ codes "END" ∷ []

-- its nodes, in card order
abbrev pub town_nodes : List NodeValue
town_nodes =
    record { number = 21; offset = 4; stages = new_stage 2 1 3 ∷ new_stage 8 2 4 ∷ new_stage 15 0 1 ∷ [] }
    ∷ record { number = 7; offset = 17; stages = new_stage 5 3 2 ∷ new_stage 16 1 5 ∷ [] }
    ∷ record { number = 300; offset = 11; stages = new_stage 3 1 2 ∷ new_stage 7 2 3 ∷ new_stage 12 0 1 ∷ new_stage 14 3 4 ∷ [] }
    ∷ []

-- a link with these feeds and this rule
abbrev linked : LinkValue → List Feed → Option GiveWay → LinkValue
linked l feeds rule = record l { feeds = feeds; gives_way = rule }

-- its links, in card order, with their feeds and rules
abbrev pub town_links : List LinkValue
town_links =
    linked (new_link 5 21 431 1733 3 2 1 2 (1 ∷ [])) (new_feed 8 173 38 ∷ []) None
    ∷ new_link 2 21 97 1619 5 7 0 1 (2 ∷ 3 ∷ []) ∷ new_link 9 7 613 1877 2 11 2 0 (2 ∷ [])
    ∷ linked (new_link 4 7 0 1451 4 1 0 0 (1 ∷ [])) (new_feed 5 311 23 ∷ new_feed 2 77 61 ∷ [])
    (Some (new_rule 9 35))
    ∷ linked (new_link 8 300 229 1999 6 5 1 1 (1 ∷ 3 ∷ [])) (new_feed 9 402 47 ∷ new_feed 3 219 300 ∷ []) None
    ∷ new_link 3 300 877 1201 1 9 0 0 (4 ∷ [])
    ∷ linked (new_link 6 300 53 1327 7 3 3 4 (2 ∷ [])) (new_feed 6 41 17 ∷ []) None
    ∷ linked (new_link 11 21 151 907 9 4 0 0 (1 ∷ 2 ∷ 3 ∷ [])) (new_feed 4 88 9 ∷ new_feed 3 60 111 ∷ [])
    (Some (new_rule 5 150))
    ∷ []

-- its network
abbrev pub town_net : Network
town_net = record {
  frame = record { cycle = 90; step_count = 18; sweeps = 3; period = 45; stop_penalty = 37; dispersion = 40 };
  nodes = town_nodes;
  links = town_links;
  plan = Some (new_plan 250 (4 ∷ 1 ∷ 7 ∷ []));
}

-- the lines of its text: all FEED cards before the YIELD cards, both in the order of their links
abbrev pub town_text : List (List ℕ)
town_text =
    take 22 town
    ++ codes "FEED 5 8 173 38" ∷ codes "FEED 4 5 311 23" ∷ codes "FEED 4 2 77 61" ∷ codes "FEED 8 9 402 47"
    ∷ codes "FEED 8 3 219 300" ∷ codes "FEED 6 6 41 17" ∷ codes "FEED 11 4 88 9" ∷ codes "FEED 11 3 60 111"
    ∷ codes "YIELD 4 9 35" ∷ codes "YIELD 11 5 150" ∷ codes "STEPS 250 4 1 7" ∷ codes "END" ∷ []
