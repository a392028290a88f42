-- Worked queues of which the two facts of `IsQueue` are true: arrivals, green and the queue after step 0.
use Rattle.std.specs.Prelude.{ℕ, List, [], ◌∷◌}

-- one queue that the last step alone makes, and one that only the whole cycle does
abbrev pub queues_by_facts : List (List ℕ × List ℕ × ℕ)
queues_by_facts = (7 ∷ 1 ∷ 2 ∷ [], 3 ∷ 4 ∷ 5 ∷ [], 4) ∷ (1 ∷ 2 ∷ 4 ∷ [], 1 ∷ 1 ∷ 1 ∷ [], 4) ∷ []
