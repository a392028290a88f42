-- The queue by two facts, without a difference: it covers each excess of the last steps, and it is 0 or one of them.
use Rattle.std.proofs.Common.{◌≡◌, ℕ, ◌-◌, ◌<◌, List, length, arith, subst}
use Rattle.transyt_profile.specs.StopLine.{sum_back, sum_at_places, queue_at, IsQueue}
use Rattle.transyt_profile.proofs.BackSums.{back_at_places}
use Rattle.transyt_profile.proofs.Greatest.{le_greatest, greatest_is, IsNoneOrExcess}

-- the definition's queue has the two facts of a queue
pub queue_is : (arrivals go : List ℕ) (i : ℕ) → length go ≡ length arrivals → i < length arrivals
    → IsQueue arrivals go i (queue_at arrivals go i)
queue_is arrivals go i same_length below =
    let n : ℕ = length arrivals in
    let excess : ℕ → ℕ = λ m. sum_back arrivals i m - sum_back go i m in
    let come : (m : ℕ) → sum_back arrivals i m ≡ sum_at_places arrivals i m = λ m. back_at_places arrivals m i below in
    let passed : (m : ℕ) → sum_back go i m ≡ sum_at_places go i m = λ m. back_at_places go m i (omega arith) in
    record {
      covers = λ m positive most. omega (arith, le_greatest excess m n positive most, come m, passed m);
      least = subst (λ (a : ℕ → ℕ). IsNoneOrExcess a (sum_at_places go i) n (queue_at arrivals go i)) (λ j m. come m j)
          (subst (λ (g : ℕ → ℕ). IsNoneOrExcess (sum_back arrivals i) g n (queue_at arrivals go i)) (λ j m. passed m j)
          (greatest_is (sum_back arrivals i) (sum_back go i) n));
    }
