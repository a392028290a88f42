-- One step more, and at the end all of them.
use Rattle.std.proofs.Common.{◌≡◌, ℕ, zero, suc, ◌+◌, ◌<◌, ◌&&◌, List, [], ◌∷◌, length}
use Rattle.std.proofs.Common.{nat_eq, take, get_or, ap, sym, ◌∙◌, arith, add-one}
use Rattle.std.specs.Str.{bytes_eq}
use Rattle.std.specs.Int.Bits.{bit_xor, bit_or, xor_self, xor_zero_l, xor_zero_r, xor_assoc, or_zero_l}
use Rattle.std.proofs.lemmas.Bool.Decides.{nat_tests}
use Rattle.std.proofs.lemmas.Nat.{le_or_l, le_or_r}
use Rattle.transyt_track.proofs.front.differ.Goals as goal

-- numbers with no bit apart are one
xor_none : (a b : ℕ) → bit_xor a b ≡ 0 → a ≡ b
xor_none a b none =
    sym (xor_zero_r a) ∙ ap (bit_xor a) (sym (xor_self b)) ∙ sym (xor_assoc a b b) ∙ ap (λ n. bit_xor n b) none
    ∙ xor_zero_l b

xor_same : (a b : ℕ) → a ≡ b → bit_xor a b ≡ 0
xor_same a b same = ap (λ n. bit_xor n b) same ∙ xor_self b

or_same : (d e : ℕ) → d ≡ 0 → e ≡ 0 → bit_or d e ≡ 0
or_same d e none other = ap (λ n. bit_or n e) none ∙ or_zero_l e ∙ other

-- no bit is up after one number more exactly where none was and the two are one
bits_more : (d a b : ℕ) → nat_eq (bit_or d (bit_xor a b)) 0 ≡ (nat_eq d 0 && nat_eq a b)
bits_more d a b =
    grind (
      arith,
      nat_tests,
      le_or_l d (bit_xor a b),
      le_or_r d (bit_xor a b),
      or_same d (bit_xor a b),
      xor_none a b,
      xor_same a b,
    )

steps_suc : (xs ys : List ℕ) (i : ℕ) → i < length xs → i < length ys
    → bytes_eq (take (suc i) xs) (take (suc i) ys)
    ≡ (bytes_eq (take i xs) (take i ys) && nat_eq (get_or xs i 0) (get_or ys i 0))
steps_suc [] ys i here there = absurd (omega arith)
steps_suc (x ∷ xs) [] i here there = absurd (omega arith)
steps_suc (x ∷ xs) (y ∷ ys) zero here there = grind arith
steps_suc (x ∷ xs) (y ∷ ys) (suc i) here there = grind (arith, steps_suc xs ys i)

-- one step more
steps_more : (xs ys : List ℕ) (i d : ℕ) → i < length xs → i < length ys
    → nat_eq d 0 ≡ bytes_eq (take i xs) (take i ys)
    → nat_eq (bit_or d (bit_xor (get_or xs i 0) (get_or ys i 0))) 0
    ≡ bytes_eq (take (i + 1) xs) (take (i + 1) ys)
steps_more xs ys i d here there before =
    rw add-one (bits_more d (get_or xs i 0) (get_or ys i 0)
    ∙ ap (λ t. t && nat_eq (get_or xs i 0) (get_or ys i 0)) before
    ∙ sym (steps_suc xs ys i here there))

pub loop-i-preserved : goal.loop-i-preserved
loop-i-preserved c =
    steps_more c.args.one.now c.args.other.now c.loop-i.i c.loop-i.bits (omega arith) (omega (arith, c.requires))
    c.loop-i.invariant
