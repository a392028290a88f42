-- A climb that ends for want of a lowering move ends where no move lowers.
use Rattle.std.proofs.Common.{◌≡◌, ℕ, zero, suc, ◌+◌, ◌-◌, ◌%◌, ◌<◌, Bool, true, false, Option, Some, None, refl, ap, sym, ◌∙◌, arith, nat_lt, nat_le}
use Rattle.std.specs.Option.{option_map}
use Rattle.std.proofs.lemmas.Bool.{cond_both, cond-true, cond-false, false_from_ne_true}
use Rattle.std.proofs.lemmas.Option.{none-some}
use Rattle.std.proofs.Math.Nat.{mod-add-mod, add-mod-mod, add-mod_left, mod-eq_of_lt, mod-lt}
use Rattle.transyt_net.specs.Parts.{Network}
use Rattle.transyt_moves.specs.Moves.{move_count}
use Rattle.transyt_sweep.specs.Climb.{after_search, stepped, ended, moved, lowers, least, first, climb_within, climb}
use Rattle.transyt_climb.specs.Way.{IsLocal}

no_more : (found : Option ℕ) → option_map (λ r. r + 1) found ≡ None → found ≡ None
no_more None none = refl
no_more (Some r) none = absurd (cc)

-- where there is no least number that passes, none passes
pub least_none : (test : ℕ → Bool) (n : ℕ) → least test n ≡ None → (r : ℕ) → r < n → test r ≡ false
least_none test zero none r less = absurd (omega arith)
least_none test (suc n) none r less = by (least_none (λ r. test (r + 1)) n rest) r less
  where
    first : test 0 ≡ false
    first = false_from_ne_true (test 0) (λ yes. none-some 0 (sym none ∙ cond-true (test 0) _ _ yes))

    rest : least (λ r. test (r + 1)) n ≡ None
    rest = no_more (least (λ r. test (r + 1)) n) (sym (cond-false (test 0) (Some 0) _ first) ∙ none)

    by : ((r : ℕ) → r < n → test (r + 1) ≡ false) → (r : ℕ) → r < suc n → test r ≡ false
    by later zero less = first
    by later (suc r) less = ap test (omega arith) ∙ later r (omega arith)

-- how far after k place p stands, round the list
round : (n k p : ℕ) → p < n → (k + (p + (n - k % n)) % n) % n ≡ p
round n k p less =
    let some : k % n < n = mod-lt k (omega arith) in
    let sum : k % n + (p + (n - k % n)) ≡ n + p = omega arith in
    add-mod-mod k (p + (n - k % n)) n
    ∙ sym (mod-add-mod k n (p + (n - k % n)))
    ∙ ap (λ x. x % n) sum
    ∙ add-mod_left n p
    ∙ mod-eq_of_lt less

-- where the search finds nothing, no move lowers
pub first_none : (net : Network) (k : ℕ) → first net k ≡ None → IsLocal net
first_none net k none place less =
    sym (ap (lowers net) (round (move_count net) k place less))
    ∙ least_none (λ r. lowers net ((k + r) % move_count net)) (move_count net) none
    ((place + (move_count net - k % move_count net)) % move_count net)
    (mod-lt (place + (move_count net - k % move_count net)) (omega arith))

local_after : (most : ℕ) (net : Network) (k left : ℕ) (found : Option ℕ) → first net k ≡ found
    → ((to : Network) (place less : ℕ) → (climb_within most to place less).local ≡ true
    → IsLocal (climb_within most to place less).net)
    → (after_search (climb_within most) net k (move_count net) left found).local ≡ true
    → IsLocal (after_search (climb_within most) net k (move_count net) left found).net
local_after most net k left None is later =
    cond_both (nat_le (move_count net) left) (ended true net k (move_count net)) (ended false net k left)
    (λ c. c.local ≡ true → IsLocal c.net) (λ _ _. first_none net k is) (λ _ never. absurd (cc))
local_after most net k left (Some r) is later =
    let place = (k + r) % move_count net in
    cond_both (nat_lt r left)
    (stepped net k (r + 1) place (climb_within most (moved net place) place (left - (r + 1)))) (ended false net k left)
    (λ c. c.local ≡ true → IsLocal c.net) (λ _ local. later (moved net place) place (left - (r + 1)) local)
    (λ _ never. absurd (cc))

local_within : (most : ℕ) (net : Network) (k left : ℕ) → (climb_within most net k left).local ≡ true
    → IsLocal (climb_within most net k left).net
local_within zero net k left local = absurd (cc)
local_within (suc most) net k left local =
    local_after most net k left (first net k) refl (local_within most) local

-- a climb that ends for want of a lowering move ends where no move lowers
pub local_climb : (net : Network) (k left : ℕ) → (climb net k left).local ≡ true → IsLocal (climb net k left).net
unfolding climb
local_climb net k left local = local_within (left + 1) net k left local
