-- The limit is within a quotient by the square of 100 and the weight.
use Rattle.std.proofs.Common.{ℕ, ◌+◌, ◌*◌, ◌/◌, ◌≤◌, arith}
use Rattle.std.proofs.Math.Nat.{div-mul-le_self, mul-le-mul_right}
use Rattle.transyt_profile.proofs.travel.limit_of.Goals as goal

pub returns-clause-room : goal.returns-clause-room
returns-clause-room c =
    let square : ℕ = (100 + c.weight-weight.result) * (100 + c.weight-weight.result) in
    let least : c.min.result * square ≤ 1099511627776 / square * square = mul-le-mul_right square (omega (arith, c.min.ensures)) in
    rw (← c.weight-weight.ensures.value) (omega (arith, least, div-mul-le_self 1099511627776 square))
