-- The stages before this one are counted, each with at most 240 steps.
use Rattle.std.proofs.Common.{◌≡◌, ◌≤◌, ◌*◌, take}
use Rattle.transyt_variants.specs.Cycles.{least_length}
use Rattle.transyt_variants.proofs.bare.least_length.Given as goal

abbrev pub invariant-loop-stage : goal.invariant-loop-stage
invariant-loop-stage l = record {
  so_far : l.all ≡ least_length (take l.stage-index l.stages);
  small : l.all ≤ 240 * l.stage-index;
}
