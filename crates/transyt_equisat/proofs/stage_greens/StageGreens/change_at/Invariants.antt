-- The change of the stage at this place.
use Rattle.std.proofs.Common.{◌≡◌, ◌<◌}
use Rattle.transyt_equisat.specs.Balance.{change_at}
use Rattle.transyt_equisat.proofs.stage_greens.StageGreens.change_at.Given as goal

abbrev pub invariant-loop-before : goal.invariant-loop-before
invariant-loop-before l = record {
  change : l.change ≡ change_at l.self.asked.now.steps l.self.asked.now.stages l.self.greens.now l.before;
  small : l.change < l.steps;
}
