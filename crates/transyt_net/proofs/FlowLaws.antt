-- Flows a step as quotients of smaller terms.
use Rattle.std.proofs.Common.{ℕ, ◌≡◌, ◌*◌, ◌/◌, ◌∙◌, sym, arith}
use Rattle.std.proofs.Math.Nat.{mul-div-mul_right}
use Rattle.transyt_parts.specs.declared.frame.Frame.{Frame}
use Rattle.transyt_net.specs.Parts.{perstep}

-- a flow a step by terms that are 400 times smaller
pub perstep_is : (frame : Frame) (q : ℕ) → q * frame.cycle * 2500 / (9 * frame.step_count) ≡ perstep frame q
perstep_is frame q =
    let top : q * frame.cycle * 2500 * 400 ≡ q * frame.cycle * 1000000 = omega arith in
    let low : 9 * frame.step_count * 400 ≡ 3600 * frame.step_count = omega arith in
    sym (mul-div-mul_right (q * frame.cycle * 2500) (9 * frame.step_count) (omega arith)) ∙ (λ j. top j / low j)
