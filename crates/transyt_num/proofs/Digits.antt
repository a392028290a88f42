-- Digits read one by one.
use Rattle.std.proofs.Common.{ℕ, ◌^◌, ◌≤◌, arith}
use Rattle.std.proofs.Math.Nat.{pow-le-pow_right}

-- a number below 10^i, where i is at most 8, is below 10^8, so ten times it fits
pub eight_digits : (i : ℕ) → i ≤ 8 → 10 ^ i ≤ 100000000
eight_digits i few = pow-le-pow_right {n = 10} (omega arith) few
