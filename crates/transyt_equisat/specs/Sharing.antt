-- The demands of the stages of a node, and how steps are shared out by them. No public clause cites these.
use Rattle.std.specs.Prelude.{ℕ, ◌+◌, ◌*◌, Bool, ◌&&◌, nat_lt, List, map, if◌then◌else◌, ◌≡◌, ◌<◌, ◌≤◌, length, sum}
use Rattle.std.specs.Prelude.{All, slice_index, ◌⊎◌, ◌-◌, true, false, not, nat_eq, slice_index_or}
use Rattle.std.specs.List.{fold, range_with_len}
use Rattle.transyt_parts.specs.Parts.{LinkValue, total_flow, NodeValue}
use Rattle.transyt_net.specs.Parts.{Network}
use Rattle.transyt_equisat.specs.declared.fraction.Fraction.{Fraction}
use Rattle.transyt_equisat.specs.declared.demand.Demand.{Demand}
use Rattle.transyt_equisat.specs.Degrees.{counts_in, is_counted, first_stage, is_above}
use Rattle.transyt_parts.specs.declared.node.Stage.{Stage}
use Rattle.transyt_parts.specs.Plan.{stage_of}
use Rattle.transyt_parts.specs.Valid.{IsStage}
use Rattle.transyt_equisat.specs.Peaks.{intergreens, Fits}
use Rattle.transyt_equisat.specs.declared.greens.Share.{Share}
use Rattle.transyt_equisat.specs.Balance.{first_from, share_of}

-- the demand of a stage with no counted link
abbrev pub no_demand : Demand
no_demand = record { flow = 0; saturation = 1 }

-- the demand of a link
abbrev pub demand_of : LinkValue → Demand
demand_of l = record { flow = total_flow l; saturation = l.saturation }

-- the degree of a demand at a green
abbrev pub degree_of : ℕ → Demand → ℕ → Fraction
degree_of steps d green = record { top = d.flow * steps; base = d.saturation * green }

-- whether a asks for more green than b
abbrev pub heavier : Demand → Demand → Bool
heavier a b = nat_lt (b.flow * a.saturation) (a.flow * b.saturation)

-- the demand of a link, where it counts in the stage and asks for more; else the demand so far
abbrev pub heavier_of : ℕ → ℕ → Demand → LinkValue → Demand
heavier_of number stage d l = if counts_in number stage l && heavier (demand_of l) d then demand_of l else d

-- the demand of the link that asks most of a stage
abbrev pub demand_in : Network → ℕ → ℕ → Demand
demand_in net number stage = fold (heavier_of number stage) no_demand net.links

-- the demands of the first stages of a node
abbrev pub demands_of : Network → ℕ → ℕ → List Demand
demands_of net number count = map (λ k. demand_in net number (k + 1)) (range_with_len 0 count)

-- the steps of the cycle, the stages, and for each what its counted links ask
pub record AskedValue : Type 0 where
  pub steps : ℕ
  pub stages : List Stage
  pub demands : List Demand

-- the demands of a node's stages
abbrev pub asked_of : Network → NodeValue → AskedValue
asked_of net n =
    record { steps = net.frame.step_count; stages = n.stages; demands = demands_of net n.number (length n.stages) }

-- its invariant: a demand for each stage, and least greens that fit into the cycle
pub record IsAsked (a : AskedValue) : Type 0 where
  pub short : a.steps ≤ 120
  pub few : (0 < length a.stages) × (length a.stages ≤ 8)
  pub count : length a.demands ≡ length a.stages
  pub stages : All (IsStage a.steps) a.stages
  pub live : All (λ d. 0 < d.saturation) a.demands
  pub room : sum (map (λ s. s.least) a.stages) + intergreens a.stages ≤ a.steps

-- greens of the stages, none below its least
pub record AreEnough (a : AskedValue) (greens : List ℕ) : Type 0 where
  pub count : length greens ≡ length a.stages
  pub least : (k : ℕ) → k < length a.stages → (stage_of a.stages k).least ≤ slice_index greens k

-- the degree of the stage at a place
abbrev pub degree_at : AskedValue → List ℕ → ℕ → Fraction
degree_at a greens k = degree_of a.steps (slice_index_or a.demands k no_demand) (slice_index greens k)

-- no stage has a degree above v
abbrev pub IsUnder : AskedValue → List ℕ → Fraction → Type 0
IsUnder a greens v = (k : ℕ) → k < length a.stages → is_above (degree_at a greens k) v ≡ false

-- no greens that fill the cycle do better: they have no fewer steps anywhere, or no lower degrees
abbrev pub IsBest : AskedValue → List ℕ → Type 0
IsBest a greens = (w : Fraction) (es : List ℕ) → 0 < w.base → Fits a.steps a.stages es → IsUnder a es w
    → ((k : ℕ) → k < length a.stages → slice_index greens k ≤ slice_index es k) ⊎ IsUnder a greens w

-- the least peak of all greens that fill the cycle
pub record IsLeastPeak (a : AskedValue) (v : Fraction) : Type 0 where
  pub base : 0 < v.base
  pub reached : (es : List ℕ) × Fits a.steps a.stages es × IsUnder a es v
  pub least : (w : Fraction) (es : List ℕ) → 0 < w.base → Fits a.steps a.stages es → IsUnder a es w
      → is_above v w ≡ false

-- the least green of the stage at a place at which its demand isn't above v
abbrev pub green_by_demand : AskedValue → Fraction → ℕ → ℕ
green_by_demand a v k =
    first_from (λ e. not (is_above (degree_of a.steps (slice_index_or a.demands k no_demand) e) v))
    (stage_of a.stages k).least (a.steps - (stage_of a.stages k).least)

-- the least green at which its demand is below v; 0 where v is 0
abbrev pub need_by_demand : AskedValue → Fraction → ℕ → ℕ
need_by_demand a v k =
    if nat_eq v.top 0 then 0
    else first_from (λ e. is_above v (degree_of a.steps (slice_index_or a.demands k no_demand) e))
    (stage_of a.stages k).least (a.steps - (stage_of a.stages k).least)

-- its share
abbrev pub share_by_demand : AskedValue → Fraction → List ℕ → ℕ → Share
share_by_demand a v greens k = share_of a.steps a.stages greens (need_by_demand a v) k

-- the counted links run in one of so many stages
abbrev pub AreWithin : ℕ → ℕ → List LinkValue → Type 0
AreWithin number count links =
    All (λ l. is_counted number l ≡ true → (1 ≤ first_stage l) × (first_stage l ≤ count)) links
