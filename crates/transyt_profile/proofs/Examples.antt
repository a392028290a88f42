-- The worked cycles and queues, computed from the definitions; and that a queue is one number.
use Rattle.std.proofs.Common.{◌≡◌, ◌≤◌, ℕ, zero, suc, List, [], ◌∷◌, All, map, refl, inl, inr, arith}
use Rattle.transyt_profile.specs.StopLine.{sum_back, greatest, IsQueue, queues, outs, stopped_of}
use Rattle.transyt_profile.specs.WorkedCycles.{crowd, green, worked_queues, worked_sums}
use Rattle.transyt_profile.specs.WorkedQueues.{queues_by_facts}
use Rattle.transyt_profile.proofs.Covering.{queue_is}

-- each sum over the last steps is as it is written
pub sums : map (λ row. sum_back crowd row.0.0 row.0.1) worked_sums ≡ map (λ row. row.1) worked_sums
unfolding sum_back
sums = refl

-- the queue, departures and stopped arrivals of each are as written
pub worked : map (λ row. (queues row.0 green, outs row.0 green, stopped_of row.0 (queues row.0 green))) worked_queues
    ≡ map (λ row. row.1) worked_queues
unfolding sum_back greatest
worked = refl

-- a queue that covers all sums is no less than one that is 0 or just covers some
least_queue : (arrivals go : List ℕ) (i queue other : ℕ) → IsQueue arrivals go i queue → IsQueue arrivals go i other
    → other ≤ queue
least_queue arrivals go i queue other is is_other =
    elim is_other.least as (λ w. other ≤ queue) [
      | inl none ↦ omega arith
      | inr some ↦ let covers = is.covers some.0 some.1 some.2 in omega (arith, covers, some.3)
    ]

-- so it is one number
pub only_queue : (arrivals go : List ℕ) (i queue other : ℕ) → IsQueue arrivals go i queue
    → IsQueue arrivals go i other → queue ≡ other
only_queue arrivals go i queue other is is_other =
    omega (
      arith,
      least_queue arrivals go i queue other is is_other,
      least_queue arrivals go i other queue is_other is,
    )

-- the facts are true of both worked queues, since the definition computes them
pub facts : All (λ row. IsQueue row.0 row.1 0 row.2) queues_by_facts
unfolding sum_back greatest
facts zero d low = queue_is (7 ∷ 1 ∷ 2 ∷ []) (3 ∷ 4 ∷ 5 ∷ []) 0 refl (omega arith)
facts (suc zero) d low = queue_is (1 ∷ 2 ∷ 4 ∷ []) (1 ∷ 1 ∷ 1 ∷ []) 0 refl (omega arith)
facts (suc (suc k)) d low = absurd (omega (arith, low))
