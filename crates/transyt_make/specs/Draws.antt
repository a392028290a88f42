-- The draws from a seed.
use Rattle.std.specs.Prelude.{ℕ, zero, suc, ◌+◌, ◌*◌, ◌/◌, ◌%◌}

-- the number after so many draws
unfoldable pub after_draws : ℕ → ℕ → ℕ
after_draws seed zero = seed
after_draws seed (suc k) = (1103515245 * after_draws seed k + 12345) % 2147483648

-- draw number k, from 0, below a
abbrev pub draw : ℕ → ℕ → ℕ → ℕ
draw seed k a = after_draws seed (k + 1) / 65536 % a

-- a seed, and how many draws were taken
pub record DrawsValue : Type 0 where
  pub seed : ℕ
  pub taken : ℕ

-- the same after so many draws more
abbrev pub further : DrawsValue → ℕ → DrawsValue
further d k = record { seed = d.seed; taken = d.taken + k }
