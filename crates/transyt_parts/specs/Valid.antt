-- Valid parts, each by itself. Offsets, changes, intergreens, least greens and lags are in steps.
use Rattle.std.specs.Prelude.{ℕ, ◌<◌, ◌≤◌, Bool, true, ◌&&◌, not, nat_le, nat_eq, List, [], ◌∷◌, length, map, All}
use Rattle.std.specs.Prelude.{nat_lt}
use Rattle.std.specs.List.{list_any}
use Rattle.transyt_parts.specs.declared.frame.Frame.{Frame}
use Rattle.transyt_parts.specs.Parts.{NodeValue, LinkValue, PlanValue, Stage, Feed, Weights}
use Rattle.transyt_parts.specs.Ranges.{is_in, IsIn, IsWithin, cycle_range, step_count_range, sweeps_range, period_range}
use Rattle.transyt_parts.specs.Ranges.{most_penalty, most_dispersion, number_range, most_flow, saturation_range}
use Rattle.transyt_parts.specs.Ranges.{most_weight, cruise_range, budget_range, most_stages, most_sizes}
pub use Rattle.transyt_parts.specs.Ranges.{within}

-- a node's card number
abbrev pub node_number : NodeValue → ℕ
node_number n = n.number

-- a link's card number
abbrev pub link_number : LinkValue → ℕ
link_number l = l.number

-- no number stands twice
abbrev pub all_differ : List ℕ → Bool
all_differ [] = true
all_differ (x ∷ xs) = not (list_any (nat_eq x) xs) && all_differ xs

-- the feeders of these feeds in order
abbrev pub feeders : List Feed → List ℕ
feeders feeds = map (λ f. f.feeder) feeds

-- whether one of these feeds has this feeder
abbrev pub is_fed : List Feed → ℕ → Bool
is_fed feeds feeder = list_any (λ f. nat_eq feeder f.feeder) feeds

-- whether each number of a frame is in its range
abbrev pub is_frame : Frame → Bool
is_frame f =
    is_in cycle_range f.cycle && is_in step_count_range f.step_count && is_in sweeps_range f.sweeps
    && is_in period_range f.period && nat_le f.stop_penalty most_penalty && nat_le f.dispersion most_dispersion

-- whether the numbers of a node are in their ranges
abbrev pub node_in_range : ℕ → ℕ → ℕ → Bool
node_in_range steps number offset = is_in number_range number && nat_lt offset steps

-- whether the numbers of a stage are in their ranges
abbrev pub stage_in_range : ℕ → Stage → Bool
stage_in_range steps s = nat_lt s.change steps && nat_lt s.intergreen steps && within 1 steps s.least

-- whether the weights of a link are in their range
abbrev pub weights_in_range : Weights → Bool
weights_in_range w = nat_le w.delay most_weight && nat_le w.stop most_weight

-- whether the numbers of a link are in their ranges, its names apart
abbrev pub link_in_range : ℕ → LinkValue → Bool
link_in_range steps l =
    is_in number_range l.number && nat_le l.entry most_flow && is_in saturation_range l.saturation
    && weights_in_range l.weights && nat_lt l.start_lag steps && nat_lt l.end_lag steps

-- whether the numbers of a feed are in their ranges, its name apart
abbrev pub feed_in_range : Feed → Bool
feed_in_range f = nat_le f.flow most_flow && is_in cruise_range f.cruise

-- a valid stage
pub record IsStage (steps : ℕ) (s : Stage) : Type 0 where
  pub change : s.change < steps
  pub intergreen : s.intergreen < steps
  pub least : IsWithin 1 steps s.least

-- a valid node, its plan apart
pub record IsNode (steps : ℕ) (n : NodeValue) : Type 0 where
  pub number : IsIn number_range n.number
  pub offset : n.offset < steps
  pub stage_count : length n.stages ≤ most_stages
  pub stages : All (IsStage steps) n.stages

-- valid weights of a link
pub record AreWeights (w : Weights) : Type 0 where
  pub delay : w.delay ≤ most_weight
  pub stop : w.stop ≤ most_weight

-- the numbers of a valid link, its names apart
pub record HasRanges (steps : ℕ) (l : LinkValue) : Type 0 where
  pub number : IsIn number_range l.number
  pub entry : l.entry ≤ most_flow
  pub saturation : IsIn saturation_range l.saturation
  pub weights : AreWeights l.weights
  pub start_lag : l.start_lag < steps
  pub end_lag : l.end_lag < steps

-- a valid climb plan
pub record IsPlan (steps : ℕ) (p : PlanValue) : Type 0 where
  pub budget : IsIn budget_range p.budget
  pub size_count : IsWithin 1 most_sizes (length p.sizes)
  pub sizes : All (λ h. (1 ≤ h) × (h < steps)) p.sizes

-- a valid frame
pub record IsFrame (f : Frame) : Type 0 where
  pub cycle : IsIn cycle_range f.cycle
  pub step_count : IsIn step_count_range f.step_count
  pub sweeps : IsIn sweeps_range f.sweeps
  pub period : IsIn period_range f.period
  pub stop_penalty : f.stop_penalty ≤ most_penalty
  pub dispersion : f.dispersion ≤ most_dispersion
