-- The stages before this one are made.
use Rattle.std.proofs.Common.{◌≡◌, map, take}
use Rattle.transyt_variants.specs.Cycles.{scaled_stage}
use Rattle.transyt_variants.proofs.bare.scaled_stages.Given as goal

abbrev pub invariant-loop-stage : goal.invariant-loop-stage
invariant-loop-stage l = l.made.items ≡ map (scaled_stage l.here.lengths.before l.here.lengths.after) (take l.stage-index l.here.stages.now)
