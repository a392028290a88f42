-- The nodes before this one have their draws.
use Rattle.std.proofs.Common.{◌≡◌, ◌≤◌, length, map}
use Rattle.std.specs.List.{range_with_len}
use Rattle.transyt_make.specs.Draws.{further}
use Rattle.transyt_variants.proofs.StartLaws.{drawn_node}
use Rattle.transyt_variants.proofs.starts.add_nodes.Given as goal

abbrev pub invariant-loop-place : goal.invariant-loop-place
invariant-loop-place l = record {
  draws : l.draws ≡ further l.initial.draws l.place;
  made : l.nodes.items
      ≡ map (drawn_node l.net l.initial.draws.seed l.initial.draws.taken) (range_with_len 0 l.place);
  within : l.place ≤ length l.net.nodes;
}
