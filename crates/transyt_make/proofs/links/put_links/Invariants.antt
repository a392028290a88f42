-- The links before this one are there.
use Rattle.std.proofs.Common.{◌≡◌, ◌*◌, ◌≤◌}
use Rattle.transyt_make.specs.Works.{link_works}
use Rattle.transyt_make.proofs.links.put_links.Given as goal

-- the links before this one are there
abbrev pub invariant-loop-place : goal.invariant-loop-place
invariant-loop-place l = record {
  works : l.works ≡ link_works l.town l.place;
  within : l.place ≤ 4 * l.town.nodes;
}
