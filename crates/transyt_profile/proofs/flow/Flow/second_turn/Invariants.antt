-- The recurrence goes round the cycle once more, and writes over the first turn.
use Rattle.std.proofs.Common.{◌≡◌, ℕ, ◌+◌, ◌*◌, ◌^◌, ◌<◌, ◌≤◌, length, get_or}
use Rattle.transyt_profile.specs.StopLine.{turn}
use Rattle.transyt_profile.proofs.flow.Flow.second_turn.Given as goal

-- the queue after i steps; the steps passed are written, and the others are as the first turn left them
abbrev pub invariant-loop-i : goal.invariant-loop-i
invariant-loop-i l = record {
  small : l.standing ≤ (length l.arrivals + l.i) * 2 ^ 48;
  here : l.standing ≡ turn l.arrivals l.go l.left l.i;
  queue : (k : ℕ) → k < l.i → get_or l.queue k 0 ≡ turn l.arrivals l.go l.left (k + 1);
  out : (k : ℕ) → k < l.i
      → get_or l.out k 0 + turn l.arrivals l.go l.left (k + 1) ≡ turn l.arrivals l.go l.left k + get_or l.arrivals k 0;
  first_queue : (k : ℕ) → l.i ≤ k → get_or l.queue k 0 ≡ get_or l.initial.queue k 0;
  first_out : (k : ℕ) → l.i ≤ k → get_or l.out k 0 ≡ get_or l.initial.out k 0;
}
