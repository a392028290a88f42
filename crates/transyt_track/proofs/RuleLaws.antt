-- The tests that Due counts by say what they are to say.
use Rattle.std.proofs.Common.{◌≡◌, ◌↔◌, ℕ, true, false, not, IsTrue, ap, subst, arith}
use Rattle.std.proofs.lemmas.Bool.Decides.{nat_tests}
use Rattle.std.proofs.lemmas.Slice.Eq.{bytes_eq-Decides}
use Rattle.transyt_net.specs.Parts.{Network}
use Rattle.transyt_sweep.specs.Sweeps.{out_of}
use Rattle.transyt_track.specs.Own.{Own, same_own}
use Rattle.transyt_track.specs.Due.{differs}
use Rattle.transyt_track.proofs.DueLaws.{own_told, same_out}

own_self : (x : Own) → same_own x x ≡ true
own_self x = grind (arith, nat_tests, bytes_eq-Decides)

-- own data pass the test exactly where they are equal
pub own_decides : (x y : Own) → IsTrue (same_own x y) ↔ x ≡ y
own_decides x y = (λ told. own_told x y told, λ same. subst (λ z. same_own x z ≡ true) same (own_self x))

-- departures differ exactly where they are not equal
pub differs_decides : (a b : Network) (s j : ℕ) → (differs a b s j ≡ false) ↔ out_of a s j ≡ out_of b s j
unfolding differs
differs_decides a b s j = (
  same_out a b s j,
  λ same. ap not ((bytes_eq-Decides (out_of a s j) (out_of b s j)).1 same),
)
