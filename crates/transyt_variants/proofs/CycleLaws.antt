-- The network of a cycle time, by cases.
use Rattle.std.proofs.Common.{◌≡◌, ℕ, ◌≤◌, Bool, true, false, not, ◌||◌, Option, Some, None, Result, Ok, Err, IfOk, refl, ◌∙◌, ap, subst, sym, if◌then◌else◌}
use Rattle.std.specs.Option.{option_map_or}
use Rattle.transyt_net.specs.Parts.{Network}
use Rattle.transyt_net.specs.Valid.{IsValid}
use Rattle.transyt_variants.specs.declared.cycles.AtCycle.{AtCycle}
use Rattle.transyt_variants.specs.declared.cycles.AtCycle.TheVariants.{NoPlan, Barred, Plan}
use Rattle.transyt_variants.specs.Cycles.{is_whole, may_have, steps_of, first_barred, balanced, bare_net, at_cycle}
use Rattle.transyt_variants.specs.Kept.{KeepsSecondsAt}
use Rattle.transyt_variants.proofs.BalancedLaws.{plan_kept}

-- the plan by the first node that bars it
abbrev planned : Network → ℕ → Option ℕ → AtCycle
planned net cycle barred = option_map_or Barred barred (Plan (balanced (bare_net net cycle)))

-- no whole number of steps, or not one that there may be
pub not_had : (net : Network) (cycle : ℕ) → (not (is_whole net cycle) || not (may_have (steps_of net cycle) net)) ≡ true
    → NoPlan ≡ at_cycle net cycle
unfolding at_cycle
not_had net cycle bad =
    sym (ap (λ (b : Bool). if b then NoPlan else planned net cycle (first_barred (steps_of net cycle) net.nodes)) bad)

-- else it goes by the first node that bars it
pub had : (net : Network) (cycle : ℕ) (o : Option ℕ) → is_whole net cycle ≡ true → may_have (steps_of net cycle) net ≡ true
    → first_barred (steps_of net cycle) net.nodes ≡ o → planned net cycle o ≡ at_cycle net cycle
unfolding at_cycle
had net cycle o whole may first =
    sym ((λ j. if not (whole j) || not (may j) then NoPlan else planned net cycle (first_barred (steps_of net cycle) net.nodes))
    ∙ ap (planned net cycle) first)

-- where there is one, it keeps the seconds
pub cycle_kept : (net : Network) (cycle : ℕ) → IsValid net → 30 ≤ cycle → cycle ≤ 240 → KeepsSecondsAt net (at_cycle net cycle)
cycle_kept net cycle valid low high = by_whole (is_whole net cycle) refl
  where
    by_first : (o : Option ℕ) → is_whole net cycle ≡ true → may_have (steps_of net cycle) net ≡ true
        → first_barred (steps_of net cycle) net.nodes ≡ o → KeepsSecondsAt net (at_cycle net cycle)
    by_first (Some node) whole may first = subst (KeepsSecondsAt net) (had net cycle (Some node) whole may first) tt
    by_first None whole may first =
        subst (KeepsSecondsAt net) (had net cycle None whole may first)
        (plan_kept net cycle valid (record { low = low; high = high; whole = whole; may = may; none = first }))

    by_may : (b : Bool) → is_whole net cycle ≡ true → may_have (steps_of net cycle) net ≡ b → KeepsSecondsAt net (at_cycle net cycle)
    by_may true whole may = by_first (first_barred (steps_of net cycle) net.nodes) whole may refl
    by_may false whole may =
        subst (KeepsSecondsAt net) (not_had net cycle (λ j. not (whole j) || not (may j))) tt

    by_whole : (b : Bool) → is_whole net cycle ≡ b → KeepsSecondsAt net (at_cycle net cycle)
    by_whole true whole = by_may (may_have (steps_of net cycle) net) whole refl
    by_whole false whole =
        subst (KeepsSecondsAt net) (not_had net cycle (λ j. not (whole j) || not (may_have (steps_of net cycle) net))) tt

-- so does whatever is made as its network
pub kept_cycle : {E : Type 0} (net : Network) (cycle : ℕ) (r : Result AtCycle E) → IsValid net → 30 ≤ cycle → cycle ≤ 240
    → IfOk r (λ at. at ≡ at_cycle net cycle) → IfOk r (KeepsSecondsAt net)
kept_cycle net cycle (Ok made) valid low high is = subst (KeepsSecondsAt net) (sym is) (cycle_kept net cycle valid low high)
kept_cycle net cycle (Err e) valid low high is = tt
