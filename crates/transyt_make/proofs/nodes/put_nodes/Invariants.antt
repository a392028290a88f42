-- The nodes before this one are there.
use Rattle.std.proofs.Common.{◌≡◌, ◌≤◌}
use Rattle.transyt_make.specs.Works.{node_works}
use Rattle.transyt_make.proofs.nodes.put_nodes.Given as goal

-- the nodes before this one are there
abbrev pub invariant-loop-place : goal.invariant-loop-place
invariant-loop-place l = record {
  works : l.works ≡ node_works l.town l.place;
  within : l.place ≤ l.town.nodes;
}
