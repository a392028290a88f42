-- The stopped arrivals are summed step by step.
use Rattle.std.proofs.Common.{◌≡◌, ◌*◌, ◌^◌, ◌≤◌, nat_lt, if◌then◌else◌, map, sum, get_or}
use Rattle.std.specs.List.{range_with_len}
use Rattle.transyt_profile.proofs.stops.stopped.Given as goal

-- the stopped arrivals of the steps passed
abbrev pub invariant-loop-i : goal.invariant-loop-i
invariant-loop-i l = record {
  small : l.all ≤ l.i * 2 ^ 48;
  so_far : l.all ≡ sum (map (λ i. if nat_lt 0 (get_or l.queue i 0) then get_or l.arrivals i 0 else 0)
      (range_with_len 0 l.i));
}
