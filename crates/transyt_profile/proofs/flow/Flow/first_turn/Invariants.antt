-- The recurrence goes round the cycle from an empty queue.
use Rattle.std.proofs.Common.{◌≡◌, ℕ, ◌+◌, ◌*◌, ◌^◌, ◌<◌, ◌≤◌, get_or}
use Rattle.transyt_profile.specs.StopLine.{turn}
use Rattle.transyt_profile.proofs.flow.Flow.first_turn.Given as goal

-- the queue after i steps; the steps passed are written
abbrev pub invariant-loop-i : goal.invariant-loop-i
invariant-loop-i l = record {
  small : l.waiting ≤ l.i * 2 ^ 48;
  so_far : l.waiting ≡ turn l.arrivals l.go 0 l.i;
  queue : (k : ℕ) → k < l.i → get_or l.queue k 0 ≡ turn l.arrivals l.go 0 (k + 1);
  out : (k : ℕ) → k < l.i
      → get_or l.out k 0 + turn l.arrivals l.go 0 (k + 1) ≡ turn l.arrivals l.go 0 k + get_or l.arrivals k 0;
}
