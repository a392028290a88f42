-- Profiles: lists with one value for each step of the cycle, and parts of them.
use Rattle.std.specs.Prelude.{ℕ, ◌+◌, ◌*◌, ◌/◌, ◌==◌, List, length, map, replicate, slice_index, if◌then◌else◌, ◌≡◌}
use Rattle.std.specs.Prelude.{◌^◌, ◌<◌, ◌≤◌}
use Rattle.std.specs.List.{range_with_len}

-- the profile with this value at each step
abbrev pub uniform : ℕ → ℕ → List ℕ
uniform step_count value = replicate step_count value

-- the sum of two profiles at step i
abbrev pub added_at : List ℕ → List ℕ → ℕ → ℕ
added_at xs ys i = slice_index xs i + slice_index ys i

-- the sum of two profiles, step by step
abbrev pub added : List ℕ → List ℕ → List ℕ
added xs ys = map (added_at xs ys) (range_with_len 0 (length xs))

-- two turns round a cycle of n steps, one after the other, folded to one: the sum of both values of each step
abbrev pub folded : ℕ → List ℕ → List ℕ
folded n turns = map (λ i. slice_index turns i + slice_index turns (n + i)) (range_with_len 0 n)

-- the part of one value that goes on with `part` of `whole` vehicles per hour, rounded down
abbrev pub share_of : ℕ → ℕ → ℕ → ℕ
share_of part whole value = (if whole == 0 then 0 else value * part / whole)

-- the part of each value of a profile
abbrev pub shared : ℕ → ℕ → List ℕ → List ℕ
shared part whole xs = map (share_of part whole) xs

-- a product by the factor takes the place of a division: the factor is the part times the reciprocal of the whole
pub record IsQuick (part whole reciprocal factor : ℕ) : Type 0 where
  pub some : 1 < whole
  pub fits : whole < 2 ^ 20
  pub least : 2 ^ 64 ≤ reciprocal * whole
  pub close : reciprocal * whole < 2 ^ 64 + whole
  pub is : factor ≡ part * reciprocal
