-- The parts that a network made of another keeps.
use Rattle.std.specs.Prelude.{⊤, ◌≡◌, ◌*◌, map}
use Rattle.transyt_parts.specs.Made.{bare_node}
use Rattle.transyt_net.specs.Parts.{Network}
use Rattle.transyt_net.specs.Edits.{set_offset}
use Rattle.transyt_net.specs.Valid.{IsValid}
use Rattle.transyt_variants.specs.declared.cycles.AtCycle.{AtCycle}
use Rattle.transyt_variants.specs.declared.cycles.AtCycle.TheVariants.{Plan}

-- a valid network that differs at most in its offsets
pub record KeepsAllButOffsets (net made : Network) : Type 0 where
  pub valid : IsValid made
  pub frame : made.frame ≡ net.frame
  pub nodes : map (set_offset 0) made.nodes ≡ map (set_offset 0) net.nodes
  pub links : made.links ≡ net.links
  pub plan : made.plan ≡ net.plan

-- A valid network whose steps are as many seconds long. It differs at most in its cycle, its number of steps, its
-- offsets and its changes: intergreens, least greens, lags and step sizes are as many steps, and so last as long.
pub record KeepsSeconds (net made : Network) : Type 0 where
  pub valid : IsValid made
  pub seconds : made.frame.cycle * net.frame.step_count ≡ net.frame.cycle * made.frame.step_count
  pub frame : record made.frame { cycle = net.frame.cycle; step_count = net.frame.step_count } ≡ net.frame
  pub nodes : map bare_node made.nodes ≡ map bare_node net.nodes
  pub links : made.links ≡ net.links
  pub plan : made.plan ≡ net.plan

-- the same of a cycle time that has a plan
abbrev pub KeepsSecondsAt : Network → AtCycle → Type 0
KeepsSecondsAt net (Plan made) = KeepsSeconds net made
KeepsSecondsAt net _ = ⊤
