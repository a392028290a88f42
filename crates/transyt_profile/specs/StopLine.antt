-- The stop line: the cut where more arrives than the green lets pass, the queue of a cycle that repeats for ever, the
-- departures, and the arrivals that stop.
use Rattle.std.specs.Prelude.{ℕ, ◌*◌, ◌/◌, List, map, sum, nat_lt, if◌then◌else◌, zero, suc, ◌+◌, length, max}
use Rattle.std.specs.Prelude.{slice_index, ◌≡◌, ◌-◌, ◌<◌, ◌≤◌, ◌⊎◌}
use Rattle.std.specs.List.{range_with_len}
use Rattle.transyt_cycle.specs.Cycle.{minus_mod, step_before}

-- a value scaled by b over a, rounded down
abbrev pub scaled : ℕ → ℕ → ℕ → ℕ
scaled a b value = value * b / a

-- the arrivals after the cut: where they are above GO, each step is scaled to its total, rounded down
abbrev pub arrivals_of : List ℕ → List ℕ → List ℕ
arrivals_of xs go = (if nat_lt (sum go) (sum xs) then map (scaled (sum xs) (sum go)) xs else xs)

-- the sum of xs over the n last steps up to step i, round the cycle
unfoldable pub sum_back : List ℕ → ℕ → ℕ → ℕ
sum_back xs i zero = 0
sum_back xs i (suc n) = slice_index xs i + sum_back xs (step_before (length xs) i) n

-- the same at its places: the sum of xs at (i - m) mod N for each m below n
abbrev pub sum_at_places : List ℕ → ℕ → ℕ → ℕ
sum_at_places xs i n = sum (map (λ m. slice_index xs (minus_mod (length xs) i m)) (range_with_len 0 n))

-- the greatest of 0 and f 1, f 2 .. f n
unfoldable pub greatest : (ℕ → ℕ) → ℕ → ℕ
greatest f zero = 0
greatest f (suc n) = max (greatest f n) (f (suc n))

-- The queue at the end of step i: the greatest of 0 and, for each n from 1 to the number of steps, the arrivals of the
-- n last steps less their GO. A difference below 0 never is the greatest, so `-`, which stops at 0,
-- serves.
abbrev pub queue_at : List ℕ → List ℕ → ℕ → ℕ
queue_at arrivals go i = greatest (λ n. sum_back arrivals i n - sum_back go i n) (length arrivals)

-- the departures of step i: the queue before it and the arrivals, less the queue after it
abbrev pub out_at : List ℕ → List ℕ → ℕ → ℕ
out_at arrivals go i =
    queue_at arrivals go (step_before (length arrivals) i) + slice_index arrivals i - queue_at arrivals go i

-- the queue at the end of each step
abbrev pub queues : List ℕ → List ℕ → List ℕ
queues arrivals go = map (queue_at arrivals go) (range_with_len 0 (length arrivals))

-- the departures of each step
abbrev pub outs : List ℕ → List ℕ → List ℕ
outs arrivals go = map (out_at arrivals go) (range_with_len 0 (length arrivals))

-- The queue by two facts, without a difference: with GO it covers the arrivals of each n last steps, and it
-- is 0 or just covers those of some.
pub record IsQueue (arrivals go : List ℕ) (i queue : ℕ) : Type 0 where
  pub covers : (n : ℕ) → 0 < n → n ≤ length arrivals → sum_at_places arrivals i n ≤ queue + sum_at_places go i n
  pub least : (queue ≡ 0) ⊎ ((n : ℕ) × (0 < n) × (n ≤ length arrivals)
      × (queue + sum_at_places go i n ≡ sum_at_places arrivals i n))

-- The queue before step i of a turn round the cycle that begins with this queue. No public clause cites it.
abbrev pub turn : List ℕ → List ℕ → (begin : ℕ) → ℕ → ℕ
turn arrivals go begin zero = begin
turn arrivals go begin (suc i) = turn arrivals go begin i + slice_index arrivals i - slice_index go i

-- The queue after each step of such a turn, and the departures in each. No public clause cites it.
pub record AreOfTurn (arrivals go : List ℕ) (begin : ℕ) (queue out : List ℕ) : Type 0 where
  pub queue_len : length queue ≡ length arrivals
  pub out_len : length out ≡ length arrivals
  pub queue_is : (i : ℕ) → i < length arrivals → slice_index queue i ≡ turn arrivals go begin (i + 1)
  pub out_is : (i : ℕ) → i < length arrivals
      → slice_index out i + turn arrivals go begin (i + 1) ≡ turn arrivals go begin i + slice_index arrivals i

-- the stopped arrivals of a cycle: all of each step that ends with a queue
abbrev pub stopped_of : List ℕ → List ℕ → ℕ
stopped_of arrivals queue =
    sum (map (λ i. if nat_lt 0 (slice_index queue i) then slice_index arrivals i else 0)
    (range_with_len 0 (length arrivals)))
