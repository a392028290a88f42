-- Division by a product: the reciprocal of a divisor is the least number that times it reaches a power of two.
use Rattle.std.proofs.Common.{◌≡◌, ℕ, ◌+◌, ◌-◌, ◌*◌, ◌/◌, ◌<◌, ◌≤◌, arith, sym}
use Rattle.std.proofs.Math.Nat.{div-eq_of_lt-le, div-mul-le_self, lt-div-mul-add, mul-le-mul_left, mul-le-mul_right}
use Rattle.std.proofs.Math.Nat.{lt_of_mul-lt-mul_right, le_of_mul-le-mul_right}

-- the number after the quotient of p by d reaches the number after p, times d
pub reciprocal_least : (p d : ℕ) → 0 < d → p + 1 ≤ (p / d + 1) * d
reciprocal_least p d some = let over : p < p / d * d + d = lt-div-mul-add some in omega (arith, over)

-- and goes past it by at most d
pub reciprocal_close : (p d : ℕ) → 0 < d → (p / d + 1) * d < p + 1 + d
reciprocal_close p d some = omega (arith, div-mul-le_self p d)

-- no product by a reciprocal falls short of the quotient
from_below : (n d m p : ℕ) → p ≤ m * d → n / d * p ≤ n * m
from_below n d m p least =
    let more : n / d * p ≤ n / d * (m * d) = mul-le-mul_left (n / d) least in
    let part : n / d * d * m ≤ n * m = mul-le-mul_right m (div-mul-le_self n d) in
    omega (arith, more, part)

-- and where n times d is below the power none reaches the next number
from_above : (n d m p : ℕ) → 0 < d → m * d < p + d → n * d < p → n * m < (n / d + 1) * p
from_above n d m p some close small =
    let most : n * (m * d) ≤ n * (p + d) = mul-le-mul_left n (omega arith) in
    let next : (n + 1) * p ≤ (n / d * d + d) * p =
    mul-le-mul_right p (let over : n < n / d * d + d = lt-div-mul-add some in omega (arith, over)) in
    lt_of_mul-lt-mul_right d (omega (arith, most, next))

-- THE LAW: where n times d is below the power, the product by the reciprocal over the power is the quotient
pub by_reciprocal : (n d m p : ℕ) → 0 < d → p ≤ m * d → m * d < p + d → n * d < p → n * m / p ≡ n / d
by_reciprocal n d m p some least close small =
    div-eq_of_lt-le p (from_below n d m p least) (from_above n d m p some close small)

-- a product by a number that times d is below p never gives more than the quotient
pub never_above : (n d near p : ℕ) → 0 < p → near * d < p → n * near / p * d ≤ n
never_above n d near p some below =
    let whole : n * near / p * p * d ≤ n * near * d = mul-le-mul_right d (div-mul-le_self (n * near) p) in
    let part : n * (near * d) ≤ n * p = mul-le-mul_left n (omega arith) in
    le_of_mul-le-mul_right {k = p} (omega (arith, whole, part)) some

-- a number with less than d left is the quotient
pub is_quotient : (n d q : ℕ) → q * d ≤ n → n - q * d < d → q ≡ n / d
is_quotient n d q within less = sym (div-eq_of_lt-le d within (omega (arith, less)))
