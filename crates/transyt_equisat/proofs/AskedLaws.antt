-- The greens and needs of the definition are those by what the stages ask.
use Rattle.std.proofs.Common.{◌≡◌, ℕ, ◌+◌, ◌-◌, ◌<◌, ◌≤◌, Bool, true, nat_eq, List, map, length, arith}
use Rattle.std.proofs.Common.{sym, ◌∙◌, get_or, inl, inr, [], ◌∷◌, ◌++◌}
use Rattle.std.specs.List.{range_with_len}
use Rattle.std.proofs.lemmas.Bool.{cases_Bool}
use Rattle.std.proofs.lemmas.Bool.Decides.{nat_tests}
use Rattle.std.proofs.lemmas.List.FromFn.{fill_by_all, length-map-range_with_len, get_or-map-range_with_len, map-range_with_len_more}
use Rattle.transyt_parts.specs.Parts.{NodeValue}
use Rattle.transyt_parts.specs.Plan.{stage_of}
use Rattle.transyt_net.specs.Parts.{Network}
use Rattle.transyt_equisat.specs.declared.fraction.Fraction.{Fraction}
use Rattle.transyt_equisat.specs.Sharing.{degree_of, degree_at, no_demand, asked_of, need_by_demand, green_by_demand, share_by_demand}
use Rattle.transyt_equisat.specs.Balance.{first_from, first_green, least_greens, need_at, share_at, no_share}
use Rattle.transyt_equisat.proofs.SettingLaws.{IsSetting}
use Rattle.transyt_equisat.proofs.DemandLaws.{IsLower, stage_tested, not_above_lower, below_lower}
use Rattle.transyt_equisat.proofs.SearchLaws.{first_same, first_least}

-- a list of one place more
pub range_next : {A : Type 0} (f : ℕ → A) (n : ℕ) → map f (range_with_len 0 (n + 1)) ≡ map f (range_with_len 0 n) ++ f n ∷ []
range_next f n = map-range_with_len_more f 0 n n (omega arith)

-- the same where its parts are at hand
pub range_more : {A : Type 0} (f : ℕ → A) (xs ys : List A) (n : ℕ) (x : A) → xs ≡ map f (range_with_len 0 n)
    → ys ≡ xs ++ x ∷ [] → x ≡ f n → ys ≡ map f (range_with_len 0 (n + 1))
range_more f xs ys n x is more here = rw (more, is, here) (sym (range_next f n))

-- functions that agree at each place make one list
pub range_same : {A : Type 0} (d : A) (f g : ℕ → A) (n : ℕ) → ((k : ℕ) → k < n → f k ≡ g k)
    → map f (range_with_len 0 n) ≡ map g (range_with_len 0 n)
range_same d f g n agree =
    fill_by_all g (map f (range_with_len 0 n)) n d (length-map-range_with_len f 0 n)
    (λ k below. get_or-map-range_with_len f 0 n k k d below (omega arith) ∙ agree k below)

-- the first greens of the stages that pass a test
abbrev pub first_greens : Network → NodeValue → (Fraction → Bool) → List ℕ
first_greens net n test = map (first_green net n test) (range_with_len 0 (length n.stages))

-- one for each stage
pub first_count : (net : Network) (n : NodeValue) (test : Fraction → Bool) → length (first_greens net n test) ≡ length n.stages
first_count net n test = length-map-range_with_len (first_green net n test) 0 (length n.stages)

-- greens at which each stage passes a test, none below its least or above the cycle
abbrev pub ArePassing : (Fraction → Bool) → Network → NodeValue → (ℕ → ℕ) → Type 0
ArePassing test net n e = (k : ℕ) → k < length n.stages
    → ((stage_of n.stages k).least ≤ e k) × (e k ≤ net.frame.step_count)
    × (test (degree_of net.frame.step_count (get_or (asked_of net n).demands k no_demand) (e k)) ≡ true)

module _ (net : Network) (n : NodeValue) (setting : IsSetting net n) {test : Fraction → Bool} (lower : IsLower test) where
  -- the first green of a stage by a lower test is that of what it asks
  first_asked : (k : ℕ) → k < length n.stages → first_green net n test k
      ≡ first_from (λ e. test (degree_of net.frame.step_count (get_or (asked_of net n).demands k no_demand) e))
      (stage_of n.stages k).least (net.frame.step_count - (stage_of n.stages k).least)
  first_asked k inside =
      first_same _ _ (stage_of n.stages k).least _ (λ e after. stage_tested lower net n k e (omega (arith, setting.least k inside)) inside setting.live)

  -- where greens pass, the first that pass are no less than the least and no more than those
  pub first_parts : (e : ℕ → ℕ) → ArePassing test net n e → (k : ℕ) → k < length n.stages
      → ((stage_of n.stages k).least ≤ get_or (first_greens net n test) k 0) × (get_or (first_greens net n test) k 0 ≤ e k)
      × (test (degree_at (asked_of net n) (first_greens net n test) k) ≡ true)
  first_parts e pass k inside =
      let (low, high, passes) = pass k inside in
      rw (get_or-map-range_with_len (first_green net n test) 0 (length n.stages) k k 0 inside (omega arith), first_asked k inside)
      (first_least _ (stage_of n.stages k).least (net.frame.step_count - (stage_of n.stages k).least) (e k) low (omega arith) passes)

module _ (net : Network) (n : NodeValue) (v : Fraction) (setting : IsSetting net n) where
  -- the need of a stage is that of what it asks
  need_asked : (k : ℕ) → k < length n.stages → need_by_demand (asked_of net n) v k ≡ need_at net n v k
  need_asked k inside =
      elim (cases_Bool (nat_eq v.top 0)) [
        | inl none ↦ rw none
        | inr some ↦ rw (some, first_asked net n setting (below_lower v (grind (arith, nat_tests, some))) k inside)
      ]

  -- the least greens of the stages are those of what they ask
  pub greens_asked : map (green_by_demand (asked_of net n) v) (range_with_len 0 (length n.stages)) ≡ least_greens net n v
  greens_asked =
      range_same 0 _ _ _ (λ k below. sym (first_asked net n setting (not_above_lower v) k below))

  -- and so are their shares
  pub shares_asked : (gs : List ℕ) → map (share_by_demand (asked_of net n) v gs) (range_with_len 0 (length n.stages))
      ≡ map (share_at net n v gs) (range_with_len 0 (length n.stages))
  shares_asked gs = range_same no_share _ _ _ (λ k below. rw (need_asked k below))
