-- Steps round a cycle.
use Rattle.std.specs.Prelude.{ℕ, zero, suc, ◌+◌, ◌-◌, ◌%◌}

-- (a - b) mod n: how many steps after b the step a comes, round a cycle of n steps
abbrev pub minus_mod : ℕ → ℕ → ℕ → ℕ
minus_mod n a b = (a + (n - b % n)) % n

-- the step before step i, round a cycle of n steps: before step 0 stands the last
abbrev pub step_before : ℕ → ℕ → ℕ
step_before n zero = n - 1
step_before n (suc i) = i
