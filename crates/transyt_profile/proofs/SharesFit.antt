-- The numbers of a share fit into 64 bits.
use Rattle.std.proofs.Common.{◌≡◌, ℕ, ◌+◌, ◌*◌, ◌/◌, ◌^◌, ◌<◌, ◌≤◌, ap, ◌∙◌, arith}
use Rattle.std.proofs.lemmas.Nat.{mul-lt}
use Rattle.std.proofs.lemmas.Bool.Decides.{nat_tests}
use Rattle.transyt_profile.specs.Profile.{share_of}
use Rattle.transyt_num.proofs.ReciprocalLaws.{by_reciprocal}

-- a value times a part times the whole is below 2^64
pub fits : (value part whole : ℕ) → value < 2 ^ 30 → part ≤ 9999 → whole < 2 ^ 20 → value * part * whole < 2 ^ 64
fits value part whole value_fits part_fits whole_fits =
    let product : value * part < 2 ^ 30 * 10000 = mul-lt value part (2 ^ 30) 10000 value_fits (omega arith) in
    omega (arith, mul-lt (value * part) whole (2 ^ 30 * 10000) (2 ^ 20) product whole_fits)

-- a value times a part times the reciprocal, over 2^64, is the share
pub share_by : (value part whole one : ℕ) → value < 2 ^ 30 → part ≤ 9999 → 1 < whole → whole < 2 ^ 20
    → 2 ^ 64 ≤ one * whole → one * whole < 2 ^ 64 + whole → value * (part * one) / 2 ^ 64 ≡ share_of part whole value
share_by value part whole one value_fits few some whole_fits least close =
    let same : value * (part * one) ≡ value * part * one = omega arith in
    let quotient : value * (part * one) / 2 ^ 64 ≡ value * part / whole =
    ap (λ n. n / 2 ^ 64) same
    ∙ by_reciprocal (value * part) whole one (2 ^ 64) (omega arith) least close
    (fits value part whole value_fits few whole_fits) in
    grind (arith, nat_tests, quotient)
