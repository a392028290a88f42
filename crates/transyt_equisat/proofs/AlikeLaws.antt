-- Equal peaks have the same answer.
use Rattle.std.proofs.Common.{◌≡◌, ℕ, ◌*◌, ◌<◌, nat_eq, nat_lt, arith}
use Rattle.std.proofs.lemmas.Bool.Decides.{nat_tests}
use Rattle.transyt_parts.specs.Parts.{NodeValue}
use Rattle.transyt_net.specs.Parts.{Network}
use Rattle.transyt_equisat.specs.declared.fraction.Fraction.{Fraction}
use Rattle.transyt_equisat.specs.Degrees.{is_above, IsSame}
use Rattle.transyt_equisat.specs.Balance.{is_same, balance_at, greens_at, least_greens, share_at, need_at, first_green, reaches}
use Rattle.transyt_equisat.proofs.FractionLaws.{same_above, same_below}

-- equal peaks have one answer
pub one_answer : (net : Network) (n : NodeValue) (v w : Fraction) → IsSame v w → 0 < v.base → 0 < w.base
    → balance_at net n v ≡ balance_at net n w
one_answer net n v w same v_base w_base =
    let above : (top base : ℕ) → nat_lt (v.top * base) (top * v.base) ≡ nat_lt (w.top * base) (top * w.base) =
    λ top base. same_above v w (record { top = top; base = base }) same v_base w_base in
    let below : (top base : ℕ) → nat_lt (top * v.base) (v.top * base) ≡ nat_lt (top * w.base) (w.top * base) =
    λ top base. same_below v w (record { top = top; base = base }) same v_base w_base in
    let equal : (top base : ℕ) → nat_eq (top * v.base) (v.top * base) ≡ nat_eq (top * w.base) (w.top * base) =
    λ top base. grind (arith, nat_tests, above top base, below top base) in
    let none : nat_eq v.top 0 ≡ nat_eq w.top 0 = grind (arith, nat_tests, below 0 1) in
    simp (greens_at, least_greens, share_at, need_at, first_green, reaches, is_same, is_above, above, below, equal, none)
