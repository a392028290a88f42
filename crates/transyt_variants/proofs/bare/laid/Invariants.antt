-- The stages before this one are made, and this one has this change.
use Rattle.std.proofs.Common.{◌≡◌, ◌<◌, map}
use Rattle.std.specs.List.{range_with_len}
use Rattle.transyt_equisat.specs.Balance.{change_at}
use Rattle.transyt_variants.proofs.BareLaws.{laid_stage}
use Rattle.transyt_variants.proofs.bare.laid.Given as goal

abbrev pub invariant-loop-place : goal.invariant-loop-place
invariant-loop-place l = record {
  so_far : l.made.items
      ≡ map (laid_stage l.fitting.steps l.fitting.stages.now l.fitting.greens.now) (range_with_len 0 l.place);
  change : l.change ≡ change_at l.fitting.steps l.fitting.stages.now l.fitting.greens.now l.place;
  small : l.change < l.fitting.steps;
}
