-- The sum of the lengths so far, and its bound.
use Rattle.std.proofs.Common.{◌≡◌, ◌≤◌, ◌*◌, ◌^◌, sum, map}
use Rattle.std.specs.List.{range_with_len}
use Rattle.transyt_parts.specs.Plan.{length_at}
use Rattle.transyt_parts.proofs.stage_plan.in_order.Given as goal

abbrev pub invariant-loop-place : goal.invariant-loop-place
invariant-loop-place l = record {
  small : l.all ≤ l.place * 2 ^ 32;
  so_far : l.all ≡ sum (map (length_at l.steps l.stages) (range_with_len 0 l.place));
}
