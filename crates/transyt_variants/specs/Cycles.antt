-- Other cycle times of a network, whose steps keep their length in seconds. Cycle times are in seconds, all else in
-- steps.
use Rattle.std.specs.Prelude.{ℕ, ◌+◌, ◌-◌, ◌*◌, ◌/◌, ◌%◌, ◌==◌, Bool, true, ◌&&◌, ◌||◌, not, nat_lt, List, map, length}
use Rattle.std.specs.Prelude.{sum_by, Option, option_map, find, if◌then◌else◌}
use Rattle.std.specs.List.{list_all, range_with_len}
use Rattle.std.specs.Option.{option_map_or}
use Rattle.transyt_parts.specs.Plan.{stage_of}
use Rattle.transyt_parts.specs.Ranges.{is_in, step_count_range}
use Rattle.transyt_parts.specs.declared.node.Stage.{Stage}
use Rattle.transyt_net.specs.Parts.{Network, NodeValue, LinkValue, PlanValue, node_of}
use Rattle.transyt_equisat.specs.Peaks.{intergreens}
use Rattle.transyt_equisat.specs.Balance.{balance, change_at, first_more, timed}
use Rattle.transyt_variants.specs.declared.cycles.AtCycle.{AtCycle}
use Rattle.transyt_variants.specs.declared.cycles.AtCycle.TheVariants.{NoPlan, Barred, Plan}

-- whether a cycle time is a whole number of the network's steps
abbrev pub is_whole : Network → ℕ → Bool
is_whole net cycle = net.frame.step_count * cycle % net.frame.cycle == 0

-- that number
abbrev pub steps_of : Network → ℕ → ℕ
steps_of net cycle = net.frame.step_count * cycle / net.frame.cycle

-- whether a link's lags are shorter than so many steps
abbrev pub has_short_lags : ℕ → LinkValue → Bool
has_short_lags steps l = nat_lt l.start_lag steps && nat_lt l.end_lag steps

-- whether the sizes of a climb plan are, if there is one
abbrev pub has_short_sizes : ℕ → Option PlanValue → Bool
has_short_sizes steps plan = option_map_or (λ p. list_all (λ h. nat_lt h steps) p.sizes) plan true

-- whether the cycle may have so many steps
abbrev pub may_have : ℕ → Network → Bool
may_have steps net =
    is_in step_count_range steps && list_all (has_short_lags steps) net.links && has_short_sizes steps net.plan

-- the least time of stages: their least greens and their intergreens
abbrev pub least_length : List Stage → ℕ
least_length stages = sum_by (λ s. s.least) stages + intergreens stages

-- the card number of the first node whose stages take more than so many steps
abbrev pub first_barred : ℕ → List NodeValue → Option ℕ
first_barred steps nodes = option_map (λ n. n.number) (find (λ n. nat_lt steps (least_length n.stages)) nodes)

-- a step of a cycle of so many steps, in a cycle of others: the same part of the cycle, rounded down
abbrev pub scaled : ℕ → ℕ → ℕ → ℕ
scaled before after step = step * after / before

-- a stage with its change at the same part of the cycle
abbrev pub scaled_stage : ℕ → ℕ → Stage → Stage
scaled_stage before after s = record s { change = scaled before after s.change }

-- the least greens of stages, with what is left of the cycle added to the first
abbrev pub filled_greens : ℕ → List Stage → List ℕ
filled_greens steps stages = first_more (steps - least_length stages) (map (λ s. s.least) stages)

-- stages one after another from the change of the first on, each as long as its intergreen and this green
abbrev pub laid : ℕ → List Stage → List ℕ → List Stage
laid steps stages greens =
    map (λ k. record (stage_of stages k) { change = change_at steps stages greens k })
    (range_with_len 0 (length stages))

-- the stages of the bare plan: as long as their intergreens and least greens, what is left of the cycle to the first
abbrev pub bare_stages : ℕ → ℕ → List Stage → List Stage
bare_stages before after stages = laid after (map (scaled_stage before after) stages) (filled_greens after stages)

-- a node with its bare plan
abbrev pub bare_plan : ℕ → ℕ → NodeValue → NodeValue
bare_plan before after n =
    record n { offset = scaled before after n.offset; stages = bare_stages before after n.stages }

-- the bare network of a cycle time: its frame has this cycle, and each node its bare plan
abbrev pub bare_net : Network → ℕ → Network
bare_net net cycle =
    record net {
      frame = record net.frame { cycle = cycle; step_count = steps_of net cycle };
      nodes = map (bare_plan net.frame.step_count (steps_of net cycle)) net.nodes;
    }

-- the node at a place with the changes of its balance
abbrev pub balanced_node : Network → ℕ → NodeValue
balanced_node net p = record (node_of net p) { stages = timed (node_of net p).stages (balance net p).stages }

-- the network with the changes of the balance of each node
abbrev pub balanced : Network → Network
balanced net = record net { nodes = map (balanced_node net) (range_with_len 0 (length net.nodes)) }

-- the plan of a cycle time: none where it isn't a whole number of steps, or may not have them; barred by the first
-- node whose stages take more; else the bare network, balanced
unfoldable pub at_cycle : Network → ℕ → AtCycle
at_cycle net cycle =
    if not (is_whole net cycle) || not (may_have (steps_of net cycle) net) then NoPlan
    else option_map_or Barred (first_barred (steps_of net cycle) net.nodes) (Plan (balanced (bare_net net cycle)))
