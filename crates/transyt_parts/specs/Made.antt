-- Parts of given numbers, parts with one thing more, and the shape of parts: all but the numbers that an edit sets.
use Rattle.std.specs.Prelude.{ℕ, List, [], ◌∷◌, ◌++◌, Some, None, map}
use Rattle.transyt_parts.specs.Parts.{NodeValue, LinkValue, PlanValue, Stage, Feed, GiveWay, Weights}
use Rattle.transyt_parts.specs.declared.link.NewLink.{NewLink}

-- a node with no stage yet
abbrev pub new_node : ℕ → ℕ → NodeValue
new_node number offset = record { number = number; offset = offset; stages = [] }

-- a stage of these numbers
abbrev pub new_stage : ℕ → ℕ → ℕ → Stage
new_stage change intergreen least = record { change = change; intergreen = intergreen; least = least }

-- the node with one more stage, the last
abbrev pub add_stage : Stage → NodeValue → NodeValue
add_stage stage n = record n { stages = n.stages ++ stage ∷ [] }

-- weights of these numbers
abbrev pub new_weights : ℕ → ℕ → Weights
new_weights delay stop = record { delay = delay; stop = stop }

-- a link with neither feeds nor a rule yet
abbrev pub new_link : ℕ → ℕ → ℕ → ℕ → ℕ → ℕ → ℕ → ℕ → List ℕ → LinkValue
new_link number node entry saturation delay stop start_lag end_lag stages =
    record {
      number = number;
      node = node;
      entry = entry;
      saturation = saturation;
      weights = new_weights delay stop;
      start_lag = start_lag;
      end_lag = end_lag;
      stages = stages;
      feeds = [];
      gives_way = None;
    }

-- the link of a new link's numbers and these stages, with neither feeds nor a rule yet
abbrev pub link_from : NewLink → List ℕ → LinkValue
link_from l stages =
    record (new_link l.number l.node l.entry l.saturation 0 0 l.start_lag l.end_lag stages) { weights = l.weights }

-- a feed of these numbers
abbrev pub new_feed : ℕ → ℕ → ℕ → Feed
new_feed feeder flow cruise = record { feeder = feeder; flow = flow; cruise = cruise }

-- the link with one more feed, the last
abbrev pub add_feed : Feed → LinkValue → LinkValue
add_feed f l = record l { feeds = l.feeds ++ f ∷ [] }

-- a give-way rule of these numbers
abbrev pub new_rule : ℕ → ℕ → GiveWay
new_rule other percent = record { other = other; percent = percent }

-- the link with this give-way rule
abbrev pub set_rule : GiveWay → LinkValue → LinkValue
set_rule rule l = record l { gives_way = Some rule }

-- a climb plan of these numbers
abbrev pub new_plan : ℕ → List ℕ → PlanValue
new_plan budget sizes = record { budget = budget; sizes = sizes }

-- a stage with its change put to 0
abbrev pub bare_stage : Stage → Stage
bare_stage s = record s { change = 0 }

-- a node with each number that an edit sets put to 0
abbrev pub bare_node : NodeValue → NodeValue
bare_node n = record n { offset = 0; stages = map bare_stage n.stages }

-- a feed with its flow and cruise time put to 0
abbrev pub bare_feed : Feed → Feed
bare_feed f = record f { flow = 0; cruise = 0 }

-- a link with each number that an edit sets put to 0
abbrev pub bare_link : LinkValue → LinkValue
bare_link l = record l { entry = 0; saturation = 0; weights = new_weights 0 0; feeds = map bare_feed l.feeds }
