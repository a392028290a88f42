-- The steps that the stages before the place take.
use Rattle.std.proofs.Common.{◌≡◌, ◌≤◌, ◌+◌, ◌*◌, take, sum}
use Rattle.transyt_equisat.specs.Peaks.{intergreens}
use Rattle.transyt_equisat.proofs.stage_greens.StageGreens.taken.Given as goal

abbrev pub invariant-loop-place : goal.invariant-loop-place
invariant-loop-place l = record {
  small : l.all ≤ l.place * 240;
  so_far : l.all ≡ sum (take l.place l.self.greens.now) + intergreens (take l.place l.self.asked.now.stages);
}
