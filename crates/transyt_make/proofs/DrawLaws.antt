-- One draw more.
use Rattle.std.proofs.Common.{◌≡◌, ℕ, ◌+◌, ◌*◌, ◌%◌, refl, add-one}
use Rattle.transyt_make.specs.Draws.{after_draws}

-- the number after one draw more
pub after_more : (seed k : ℕ) → after_draws seed (k + 1) ≡ (1103515245 * after_draws seed k + 12345) % 2147483648
unfolding after_draws
after_more seed k = rw (add-one k) refl
