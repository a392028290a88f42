-- The mean of two numbers by a reciprocal.
use Rattle.std.proofs.Common.{◌≡◌, ℕ, ◌+◌, ◌-◌, ◌*◌, ◌/◌, ◌^◌, ◌<◌, ◌≤◌, ap, ◌∙◌, arith}
use Rattle.std.proofs.lemmas.Nat.{mul-lt}
use Rattle.std.proofs.Math.Nat.{mul-le-mul_left, mul-le-mul_right, mul-lt-mul_of_pos_right}
use Rattle.transyt_num.proofs.ReciprocalLaws.{by_reciprocal}
use Rattle.transyt_profile.specs.Platoon.{mixed}
use Rattle.transyt_profile.specs.declared.travel.Travel.{Travel}

-- the sum that is divided is below a power of 2 where numbers below `most` are mixed
parts_fit : (w x z most p : ℕ) → most * (100 + w) * (100 + w) ≤ p → x < most → z < most
    → (100 * x + w * z) * (100 + w) < p
parts_fit w x z most p room x_fits z_fits =
    let z_most : w * z ≤ w * (most - 1) = mul-le-mul_left w (omega arith) in
    let less : most - 1 + 1 ≡ most = omega arith in
    let all : w * (most - 1 + 1) ≡ w * most = ap (λ n. w * n) less in
    let whole : 100 * x + w * z < most * (100 + w) = omega (arith, z_most, all) in
    let both = mul-lt-mul_of_pos_right {k = 100 + w} whole (omega arith) in omega (arith, both, room)

-- the product over the power is the mean
pub mixed_by : (w by x z most p : ℕ) → p ≤ by * (100 + w) → by * (100 + w) < p + (100 + w)
    → most * (100 + w) * (100 + w) ≤ p → x < most → z < most → (x * (100 * by) + z * (w * by)) / p ≡ mixed w x z
mixed_by w by x z most p least close room x_fits z_fits =
    let same : x * (100 * by) + z * (w * by) ≡ (100 * x + w * z) * by = omega arith in
    ap (λ n. n / p) same
    ∙ by_reciprocal (100 * x + w * z) (100 + w) by p (omega arith) least close (parts_fit w x z most p room x_fits z_fits)

-- the products of a travel fit
pub travel_sum : (m : Travel) (x z : ℕ) → x < m.limit → z < m.limit
    → x * m.starting_factor + z * m.before_factor < 2 ^ 63
travel_sum m x z x_fits z_fits =
    let w : ℕ = m.weight in
    let by : ℕ = m.reciprocal in
    let first : x * (100 * by) ≤ m.limit * (100 * by) = mul-le-mul_right (100 * by) (omega arith) in
    let second : z * (w * by) ≤ m.limit * (w * by) = mul-le-mul_right (w * by) (omega arith) in
    let both : m.limit * (by * (100 + w)) ≤ 4194304 * (by * (100 + w)) = mul-le-mul_right (by * (100 + w)) m.limit_fits in
    let apart : m.limit * (by * (100 + w)) ≡ m.limit * (100 * by) + m.limit * (w * by) = omega arith in
    rw (m.is_starting, m.is_before) (omega (arith, first, second, both, apart, m.weight_fits, m.close))

-- the product of a value below 2^22 with the factor of the value that sets out fits
pub start_fits : (m : Travel) (value : ℕ) → value < 2 ^ 22 → value * m.starting_factor < 2 ^ 64
start_fits m value small =
    let factor : 100 * m.reciprocal < 2 ^ 42 = omega (arith, m.close, m.weight_fits) in
    rw m.is_starting (omega (arith, mul-lt value (100 * m.reciprocal) (2 ^ 22) (2 ^ 42) small factor))
