-- The square root, rounded down.
use Rattle.std.specs.Prelude.{ℕ, zero, suc, ◌*◌, nat_le, if◌then◌else◌}

-- the greatest r up to n with r·r at most v
unfoldable pub root_up_to : ℕ → ℕ → ℕ
root_up_to v zero = 0
root_up_to v (suc n) = if nat_le (suc n * suc n) v then suc n else root_up_to v n

-- the greatest r with r·r at most v
abbrev pub root : ℕ → ℕ
root v = root_up_to v v
