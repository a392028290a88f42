-- How large a queue can be.
use Rattle.std.proofs.Common.{ℕ, ◌-◌, ◌^◌, ◌<◌, ◌≤◌, List, length, sum, arith}
use Rattle.std.specs.List.{All}
use Rattle.std.proofs.lemmas.List.Sums.{sum_by-le}
use Rattle.transyt_profile.specs.StopLine.{sum_back, queue_at}
use Rattle.transyt_profile.proofs.BackSums.{back-le}
use Rattle.transyt_profile.proofs.Greatest.{greatest-le}

-- no queue is above the arrivals of a cycle, and these are at most GO of a cycle, which is below 2^37
pub queue-lt : (arrivals go : List ℕ) (i : ℕ) → i < length arrivals → sum arrivals ≤ sum go
    → length go ≤ 120 → All (λ v. v < 2 ^ 30) go → queue_at arrivals go i < 2 ^ 37
queue-lt arrivals go i below served most fit =
    omega (
      arith,
      greatest-le (λ n. sum_back arrivals i n - sum_back go i n) (sum arrivals) (length arrivals)
          (λ n within. omega (arith, back-le arrivals n i below within)),
      sum_by-le (λ x. x) (2 ^ 30) go (λ k d inside. omega (arith, fit k d inside)),
    )
