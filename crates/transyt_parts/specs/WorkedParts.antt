-- Worked parts: each limit and one past it, parts of given numbers, what no edit changes, and the total flow.
use Rattle.std.specs.Prelude.{ℕ, Bool, List, [], ◌∷◌, map, Some, None}
use Rattle.transyt_parts.specs.declared.link.NewLink.{NewLink}
use Rattle.transyt_parts.specs.Parts.{NodeValue, LinkValue, PlanValue, total_flow}
use Rattle.transyt_parts.specs.Ranges.{within, is_in, cycle_range, step_count_range, sweeps_range, period_range}
use Rattle.transyt_parts.specs.Ranges.{most_penalty, most_dispersion, number_range, most_flow, saturation_range}
use Rattle.transyt_parts.specs.Ranges.{most_weight, cruise_range, most_percent, budget_range, most_stages, most_sizes}
use Rattle.transyt_parts.specs.Valid.{all_differ, feeders, is_fed, node_number, link_number}
use Rattle.transyt_parts.specs.Made.{new_node, new_stage, add_stage, link_from, new_feed, add_feed, new_rule, set_rule}
use Rattle.transyt_parts.specs.Made.{new_plan, bare_node, bare_link}

-- the ranges at their ends: no, yes, yes, no
abbrev pub ends : List (List Bool)
ends =
    map (is_in cycle_range) (29 ∷ 30 ∷ 240 ∷ 241 ∷ [])
    ∷ map (is_in step_count_range) (9 ∷ 10 ∷ 120 ∷ 121 ∷ [])
    ∷ map (is_in sweeps_range) (0 ∷ 1 ∷ 8 ∷ 9 ∷ [])
    ∷ map (is_in period_range) (14 ∷ 15 ∷ 120 ∷ 121 ∷ [])
    ∷ map (is_in number_range) (0 ∷ 1 ∷ 99999 ∷ 100000 ∷ [])
    ∷ map (is_in saturation_range) (99 ∷ 100 ∷ 9999 ∷ 10000 ∷ [])
    ∷ map (is_in cruise_range) (0 ∷ 1 ∷ 300 ∷ 301 ∷ [])
    ∷ map (is_in budget_range) (0 ∷ 1 ∷ 1000000 ∷ 1000001 ∷ [])
    ∷ map (within 1 18) (0 ∷ 1 ∷ 18 ∷ 19 ∷ [])
    ∷ []

-- the limits that begin at 0
abbrev pub limits : List ℕ
limits =
    most_penalty ∷ most_dispersion ∷ most_flow ∷ most_weight ∷ most_percent ∷ most_stages ∷ most_sizes ∷ []

-- a link of these numbers
abbrev pub numbers : NewLink
numbers = record {
  number = 4;
  node = 7;
  entry = 151;
  saturation = 1451;
  weights = record { delay = 5; stop = 3 };
  start_lag = 1;
  end_lag = 2;
}

-- the link, with two feeds and a rule
abbrev pub link : LinkValue
link =
    set_rule (new_rule 9 35) (add_feed (new_feed 2 77 61) (add_feed (new_feed 5 311 23) (link_from numbers (2 ∷ 1 ∷ []))))

-- the same, written out
abbrev pub link_written : LinkValue
link_written = record {
  number = 4;
  node = 7;
  entry = 151;
  saturation = 1451;
  weights = record { delay = 5; stop = 3 };
  start_lag = 1;
  end_lag = 2;
  stages = 2 ∷ 1 ∷ [];
  feeds = record { feeder = 5; flow = 311; cruise = 23 } ∷ record { feeder = 2; flow = 77; cruise = 61 } ∷ [];
  gives_way = Some (record { other = 9; percent = 35 });
}

-- a new link has neither feeds nor a rule, and no edit changes what is left of the other
abbrev pub links : List (LinkValue × LinkValue)
links =
    (link, link_written)
    ∷ (link_from numbers (3 ∷ []), record link_written { stages = 3 ∷ []; feeds = []; gives_way = None })
    ∷ (
      bare_link link,
      record link_written {
        entry = 0;
        saturation = 0;
        weights = record { delay = 0; stop = 0 };
        feeds = record { feeder = 5; flow = 0; cruise = 0 } ∷ record { feeder = 2; flow = 0; cruise = 0 } ∷ [];
      },
    )
    ∷ []

-- nodes, and what no edit changes of one
abbrev pub nodes : List (NodeValue × NodeValue)
nodes =
    (new_node 21 4, record { number = 21; offset = 4; stages = [] })
    ∷ (
      add_stage (new_stage 8 2 4) (add_stage (new_stage 2 1 3) (new_node 21 4)),
      record {
        number = 21;
        offset = 4;
        stages = record { change = 2; intergreen = 1; least = 3 } ∷ record { change = 8; intergreen = 2; least = 4 } ∷ [];
      },
    )
    ∷ (
      bare_node (add_stage (new_stage 8 2 4) (new_node 21 4)),
      record {
        number = 21;
        offset = 0;
        stages = record { change = 0; intergreen = 2; least = 4 } ∷ [];
      },
    )
    ∷ []

-- a climb plan
abbrev pub plans : List (PlanValue × PlanValue)
plans = (new_plan 250 (4 ∷ 1 ∷ 7 ∷ []), record { budget = 250; sizes = 4 ∷ 1 ∷ 7 ∷ [] }) ∷ []

-- numbers of parts, and the total flow
abbrev pub counts : List ℕ
counts = total_flow link ∷ link_number link ∷ node_number (new_node 21 4) ∷ feeders link.feeds

-- whether numbers differ, and whether a link is fed by another
abbrev pub tests : List Bool
tests =
    all_differ (3 ∷ 1 ∷ 2 ∷ []) ∷ all_differ (3 ∷ 1 ∷ 3 ∷ []) ∷ all_differ (1 ∷ 2 ∷ 2 ∷ [])
    ∷ is_fed link.feeds 5 ∷ is_fed link.feeds 2 ∷ is_fed link.feeds 77 ∷ is_fed link.feeds 4 ∷ []
