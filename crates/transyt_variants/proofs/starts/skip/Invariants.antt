-- So many draws are taken.
use Rattle.std.proofs.Common.{◌≡◌, ◌≤◌}
use Rattle.transyt_make.specs.Draws.{further}
use Rattle.transyt_variants.proofs.starts.skip.Given as goal

abbrev pub invariant-loop-left_out : goal.invariant-loop-left_out
invariant-loop-left_out l = record {
  taken : l.draws ≡ further l.initial.draws l.left_out;
  within : l.left_out ≤ l.count;
}
