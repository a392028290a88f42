-- The greens so far take as many steps as turns, and none do better.
use Rattle.std.proofs.Common.{◌≡◌, ◌+◌, sum}
use Rattle.transyt_equisat.specs.Peaks.{intergreens}
use Rattle.transyt_equisat.specs.Sharing.{AreEnough, IsBest}
use Rattle.transyt_equisat.proofs.sharing.share_out.Given as goal

abbrev pub invariant-loop-turn : goal.invariant-loop-turn
invariant-loop-turn l = record {
  enough : AreEnough l.asked l.greens;
  fills : sum l.greens + intergreens l.asked.stages ≡ l.turn;
  best : IsBest l.asked l.greens;
}
