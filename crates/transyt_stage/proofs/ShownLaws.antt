-- The steps at which a link is shown.
use Rattle.std.proofs.Common.{◌≡◌, ℕ, ◌+◌, ◌-◌, ◌%◌, ◌<◌, ◌≤◌, min, Bool, true, false, ◌&&◌, ◌||◌, List, length, get_or}
use Rattle.std.proofs.Common.{nat_lt, nat_le, refl, ap, sym, ◌∙◌, arith, ◌⊎◌, inl, inr, ⊎_elim, map, replicate, if◌then◌else◌}
use Rattle.std.specs.List.{list_any, range_with_len}
use Rattle.std.proofs.lemmas.List.FromFn.{fill_by_all, get_or-map-range_with_len, length-map-range_with_len}
use Rattle.std.proofs.lemmas.Bool.{cases_lt}
use Rattle.std.proofs.lemmas.Bool.Decides.{nat_tests}
use Rattle.std.proofs.lemmas.List.{get_or-replicate}
use Rattle.std.proofs.Math.Nat.{mod-eq_of_lt, mod-eq-sub-mod, mod-lt, mod-add-mod}
use Rattle.transyt_cycle.specs.Cycle.{minus_mod, step_before}
use Rattle.transyt_parts.specs.Parts.{NodeValue}
use Rattle.transyt_parts.specs.Plan.{stage_of, length_at}
use Rattle.transyt_parts.proofs.BelowLaws.{any_more}
use Rattle.transyt_stage.specs.Green.{runs_in, shows, is_shown, shown_of, passed_at}
use Rattle.transyt_stage.proofs.StepLaws.{green_without_lags}

-- whether a step comes at least `from` and fewer than `to` steps after the change
abbrev pub between : ℕ → ℕ → ℕ → Bool
between from to m = nat_le from m && nat_lt m to

-- the place in its turn of a number below two turns is the number, or a turn less
mod-two_turns : (n k : ℕ) → k < n + n → (k % n ≡ k) ⊎ (k % n + n ≡ k)
mod-two_turns n k below =
    ⊎_elim (λ less. inl (mod-eq_of_lt less))
    (λ more. inr (omega (arith, mod-eq-sub-mod more ∙ mod-eq_of_lt (omega arith)))) (cases_lt k n)

-- the steps from `from` to `to` after a change are those from `start` on, and past the cycle's end its first
pub between_round : (n i change from to start : ℕ) → i < n → from ≤ n → to ≤ n → start ≡ (change + from) % n
    → between from to (minus_mod n i change)
    ≡ (between 0 (start + (to - from) - n) i || between start (min (start + (to - from)) n) i)
between_round n i change from to start below from_most to_most at =
    let some : 0 < n = omega arith in
    let rest : change % n < n = mod-lt change some in
    grind (
      arith,
      nat_tests,
      at ∙ sym (mod-add-mod change n from),
      mod-two_turns n (change % n + from) (omega arith),
      mod-two_turns n (i + (n - change % n)) (omega arith),
      mod-lt (change % n + from) some,
      mod-lt (i + (n - change % n)) some,
    )

-- a value that some test so far gives, and then one more
pub one_more : {X : Type 0} (p : ℕ → Bool) (n : ℕ) (value first before after : X)
    → before ≡ (if list_any p (range_with_len 0 n) then value else first)
    → after ≡ (if p n then value else before)
    → after ≡ (if list_any p (range_with_len 0 (n + 1)) then value else first)
one_more p n value first before after so_far here = grind (arith, nat_tests, any_more p n)

-- a list of false, with true at each step at which the link is shown, is the definition's
pub shown_is : (steps : ℕ) (node : NodeValue) (stages : List ℕ) (clear shown : List Bool)
    → clear ≡ replicate steps false → length shown ≡ steps
    → ((i : ℕ) (d : Bool) → i < steps
    → get_or shown i d ≡ (if is_shown steps node stages i then true else get_or clear i d))
    → shown ≡ shown_of steps node stages
shown_is steps node stages clear shown none long each =
    fill_by_all (is_shown steps node stages) shown steps false long
    (λ i below. grind (arith, nat_tests, each i false below, get_or-replicate steps i false false below))

-- a list of zeros, with `room` at each step at which the link is shown, is GO without lags
module _ (steps : ℕ) (node : NodeValue) (stages : List ℕ) (room : ℕ) (clear out : List ℕ)
    (none : clear ≡ replicate steps 0) (long : length out ≡ steps)
    (each : (i : ℕ) (d : ℕ) → i < steps
    → get_or out i d ≡ (if is_shown steps node stages i then room else get_or clear i d)) where
  -- each step has the one or the other
  passes : (i : ℕ) (d : ℕ) → i < steps → get_or out i d ≡ (if is_shown steps node stages i then room else 0)
  passes i d below = grind (arith, nat_tests, each i d below, get_or-replicate steps i 0 d below)

  -- the list is the definition's
  pub passed_without_lags : (start_lag end_lag : ℕ) → start_lag ≡ 0 → end_lag ≡ 0
      → out ≡ map (passed_at (shown_of steps node stages) start_lag end_lag room) (range_with_len 0 steps)
  passed_without_lags start_lag end_lag no_start no_end =
      fill_by_all (passed_at (shown_of steps node stages) start_lag end_lag room) out steps 0 long
      (λ i below. passes i 0 below
      ∙ ap (λ b. if b then room else 0)
      (sym (get_or-map-range_with_len (is_shown steps node stages) 0 steps i i false below (omega arith))
      ∙ sym (green_without_lags (shown_of steps node stages) start_lag end_lag i
      (omega (arith, below, length-map-range_with_len (is_shown steps node stages) 0 steps)) no_start no_end)))

  -- each number is below a limit of `room`
  pub passed_below : (limit : ℕ) → room < limit → (i : ℕ) (d : ℕ) → i < length out → get_or out i d < limit
  passed_below limit small i d below = grind (arith, nat_tests, passes i d)

-- a stage shows a link that runs in it from the step `from` after its change to the step `to`
pub shows_between : (steps : ℕ) (node : NodeValue) (stages : List ℕ) (i k n change from to : ℕ)
    → n ≡ steps → runs_in stages k ≡ true → change ≡ node.offset + (stage_of node.stages k).change
    → from ≡ (if runs_in stages (step_before (length node.stages) k) then 0 else (stage_of node.stages k).intergreen)
    → to ≡ length_at steps node.stages k → between from to (minus_mod n i change) ≡ shows steps node stages i k
shows_between steps node stages i k n change from to long runs at starts ends =
    rw (long, runs, at, starts, ends) (by (runs_in stages (step_before (length node.stages) k)) _ _ _)
  where
    by : (b : Bool) (m l ig : ℕ) → between (if b then 0 else ig) l m ≡ (nat_lt m l && true && (nat_le ig m || b))
    by b m l ig = grind (arith, nat_tests)

-- and none that doesn't run in it
pub not_shown : (steps : ℕ) (node : NodeValue) (stages : List ℕ) (i k : ℕ) → runs_in stages k ≡ false
    → shows steps node stages i k ≡ false
not_shown steps node stages i k none = rw none (by _ _)
  where
    by : (b c : Bool) → (b && false && c) ≡ false
    by true c = refl
    by false c = refl

-- what has a value by one test has it by an equal one
pub shown_by : {X : Type 0} (value first x : X) (a b : Bool) → x ≡ (if a then value else first) → a ≡ b
    → x ≡ (if b then value else first)
shown_by value first x a b is same = is ∙ ap (λ t. if t then value else first) same
