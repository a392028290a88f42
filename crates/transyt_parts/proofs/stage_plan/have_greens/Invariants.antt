-- The stages before the place have room for their greens.
use Rattle.std.proofs.Common.{◌≡◌, true}
use Rattle.std.specs.List.{range_with_len, list_all}
use Rattle.transyt_parts.specs.Plan.{has_green}
use Rattle.transyt_parts.proofs.stage_plan.have_greens.Given as goal

abbrev pub invariant-loop-place : goal.invariant-loop-place
invariant-loop-place l = list_all (has_green l.steps l.stages) (range_with_len 0 l.place) ≡ true
