-- A climb, step by step: each is a listed move that is allowed, and lowers the index.
use Rattle.std.specs.Prelude.{◌≡◌, ◌<◌, List, [], ◌∷◌, None, All}
use Rattle.transyt_net.specs.Parts.{Network}
use Rattle.transyt_parts.specs.Parts.{NodeValue}
use Rattle.transyt_net.specs.EditFaults.{edit_fault}
use Rattle.transyt_net.specs.Edits.{with_edit}
use Rattle.transyt_parts.specs.Plan.{plan_fault}
use Rattle.transyt_moves.specs.Moves.{move, move_count}
use Rattle.transyt_sweep.specs.Sweeps.{index}
use Rattle.transyt_sweep.specs.Climb.{Step}

-- no node has a fault in its plan: its stages come one after another within the cycle, each at least as long as its
-- intergreen and its least green
abbrev pub ArePlanned : Network → Type 0
ArePlanned net = All (λ (n : NodeValue). plan_fault net.frame.step_count n.stages ≡ None) net.nodes

-- a step on a network: a listed move that is allowed, strictly lowers the index, and leaves every node's plan allowed
pub record IsLowering (net : Network) (step : Step) : Type 0 where
  pub listed : step.place < move_count net
  pub edit_is : step.edit ≡ move net step.place
  pub allowed : edit_fault net step.edit ≡ None
  pub index_is : step.index ≡ index (with_edit net step.edit)
  pub lower : step.index < index net
  pub planned : ArePlanned (with_edit net step.edit)

-- steps, one after another, lead from a network to another, each lowering the index
abbrev pub LeadDown : Network → List Step → Network → Type 0
LeadDown net [] last = last ≡ net
LeadDown net (step ∷ steps) last = IsLowering net step × LeadDown (with_edit net step.edit) steps last
