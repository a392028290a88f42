-- Facts of some platoons one after the other, each with its passing value and in its lane.
use Rattle.std.proofs.Common.{ℕ, ◌+◌, ◌<◌, ◌≤◌, List, length, get_or, set, sym, subst, arith, below_more}
use Rattle.std.proofs.lemmas.List.{get_or_default, get_or-set_other, get_or-set_same}
use Rattle.transyt_profile.specs.declared.passing.Passing.{Passing}
use Rattle.transyt_profile.specs.declared.platoon.Platoon.{Platoon}

-- the first n platoons are so
abbrev pub AreFirst : (ℕ → Platoon → Type 0) → List Platoon → ℕ → Type 0
AreFirst P ps n = (i : ℕ) → i < n → (d : Platoon) → i < length ps → P i (get_or ps i d)

-- one more is so
pub first_more : (P : ℕ → Platoon → Type 0) (ps : List Platoon) (n : ℕ) (d : Platoon) → P n (get_or ps n d)
    → AreFirst P ps n → AreFirst P ps (n + 1)
first_more P ps n d here before =
    below_more (λ i. (e : Platoon) → i < length ps → P i (get_or ps i e)) n before
    (λ e within. subst (P n) (get_or_default ps n d e within) here)

-- the first n platoons go by so
abbrev pub GoFirst : (Platoon → Passing → Type 0) → List Platoon → List Passing → ℕ → Type 0
GoFirst R ps gs n = (i : ℕ) → i < n → (d : Platoon) → (e : Passing) → i < length ps → R (get_or ps i d) (get_or gs i e)

-- and the others so
abbrev pub GoLast : (Platoon → Passing → Type 0) → List Platoon → List Passing → ℕ → Type 0
GoLast R ps gs n = (i : ℕ) → n ≤ i → (d : Platoon) → (e : Passing) → i < length ps → R (get_or ps i d) (get_or gs i e)

-- one more goes by so
pub go_more : (R : Platoon → Passing → Type 0) (ps : List Platoon) (gs : List Passing) (n : ℕ) (d : Platoon) (g : Passing)
    → n < length gs → R (get_or ps n d) g → GoFirst R ps gs n → GoFirst R ps (set gs n g) (n + 1)
go_more R ps gs n d g inside here before =
    below_more (λ i. (e : Platoon) → (f : Passing) → i < length ps → R (get_or ps i e) (get_or (set gs n g) i f)) n
    (λ i low e f within.
    subst (R (get_or ps i e)) (sym (get_or-set_other gs n i g f (λ same. omega (arith, same, low))))
    (before i low e f within))
    (λ e f within.
    subst (λ p. R p (get_or (set gs n g) n f)) (get_or_default ps n d e within)
    (subst (R (get_or ps n d)) (sym (get_or-set_same gs n g f inside)) here))

-- and the others stay
pub go_less : (R : Platoon → Passing → Type 0) (ps : List Platoon) (gs : List Passing) (n : ℕ) (g : Passing)
    → GoLast R ps gs n → GoLast R ps (set gs n g) (n + 1)
go_less R ps gs n g before i above e f within =
    subst (R (get_or ps i e)) (sym (get_or-set_other gs n i g f (λ same. omega (arith, same, above))))
    (before i (omega (arith, above)) e f within)
