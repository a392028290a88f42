-- The conditions of the calls that make a bare plan. No public clause cites these.
use Rattle.std.specs.Prelude.{ℕ, ◌≡◌, ◌≤◌, true, length, None, List, All}
use Rattle.transyt_parts.specs.declared.node.Stage.{Stage}
use Rattle.transyt_parts.specs.Valid.{IsNode}
use Rattle.transyt_net.specs.Parts.{Network, NodeValue}
use Rattle.transyt_variants.specs.Cycles.{is_whole, may_have, steps_of, first_barred, least_length}

-- at most eight stages, of which no intergreen and no least green is above 120
pub record AreShort (stages : List Stage) : Type 0 where
  pub few : length stages ≤ 8
  pub each : All (λ s. (s.intergreen ≤ 120) × (s.least ≤ 120)) stages

-- a node of a cycle of so many steps that has a bare plan in one of others
pub record HasBarePlan (before after : ℕ) (n : NodeValue) : Type 0 where
  pub node : IsNode before n
  pub two : 2 ≤ length n.stages
  pub room : least_length n.stages ≤ after

-- a cycle time that has a plan
pub record CanHave (net : Network) (cycle : ℕ) : Type 0 where
  pub low : 30 ≤ cycle
  pub high : cycle ≤ 240
  pub whole : is_whole net cycle ≡ true
  pub may : may_have (steps_of net cycle) net ≡ true
  pub none : first_barred (steps_of net cycle) net.nodes ≡ None
