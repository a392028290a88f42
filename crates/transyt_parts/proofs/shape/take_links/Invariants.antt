-- The links before the place are taken, and the two lists have one shape.
use Rattle.std.proofs.Common.{◌≡◌, ◌<◌, ℕ, map, get_or}
use Rattle.transyt_parts.specs.Parts.{LinkValue}
use Rattle.transyt_parts.specs.Made.{bare_link}
use Rattle.transyt_parts.proofs.shape.take_links.Given as goal

abbrev pub invariant-loop-place : goal.invariant-loop-place
invariant-loop-place l = record {
  done : (k : ℕ) (d : LinkValue) → k < l.place → get_or l.links k d ≡ get_or l.from k d;
  alike : map bare_link l.links ≡ map bare_link l.from;
}
