-- The stages before this one are made.
use Rattle.std.proofs.Common.{◌≡◌, map, get_or}
use Rattle.std.specs.List.{range_with_len}
use Rattle.transyt_parts.specs.Plan.{stage_of}
use Rattle.transyt_equisat.specs.Balance.{no_share}
use Rattle.transyt_variants.proofs.cycles.timed.Given as goal

abbrev pub invariant-loop-place : goal.invariant-loop-place
invariant-loop-place l = l.made.items
    ≡ map (λ k. record (stage_of l.stages k) { change = (get_or l.shares k no_share).change })
    (range_with_len 0 l.place)
