-- The greens of the answer fill the cycle, their peak is the peak, and its needs don't fit into the cycle.
use Rattle.std.proofs.Common.{◌≡◌, ℕ, ◌+◌, ◌-◌, ◌*◌, ◌<◌, ◌≤◌, Bool, true, false, not, nat_eq, List, map, length, sum, Some, find}
use Rattle.std.proofs.Common.{◌∙◌, ap, arith, get_or, inl, inr, lt-ltb, eqb-true, mul-pos, mul-le-mul_left}
use Rattle.std.specs.List.{range_with_len, position_or_len}
use Rattle.std.proofs.lemmas.Bool.{cases_Bool, cases_lt, not-true, and_parts}
use Rattle.std.proofs.lemmas.Bool.Decides.{nat_tests}
use Rattle.std.proofs.lemmas.List.Folds.{find_at}
use Rattle.std.proofs.lemmas.List.Sums.{fails_before_first, passes_at_first}
use Rattle.std.proofs.lemmas.Option.{slice_get-get_or}
use Rattle.transyt_parts.specs.Parts.{NodeValue, LinkValue}
use Rattle.transyt_net.specs.Parts.{Network, no_link}
use Rattle.transyt_equisat.specs.declared.fraction.Fraction.{Fraction}
use Rattle.transyt_equisat.specs.Degrees.{is_above, IsSame, is_counted, degree}
use Rattle.transyt_equisat.specs.Peaks.{Fits, green_of, peak, intergreens}
use Rattle.transyt_equisat.specs.Balance.{first_green, first_more, least_greens, greens_at, need_at}
use Rattle.transyt_equisat.specs.Balance.{is_same, reaches, balance_at, peak_told}
use Rattle.transyt_equisat.specs.Sharing.{no_demand, asked_of, degree_at, IsUnder, IsLeastPeak}
use Rattle.transyt_equisat.proofs.SettingLaws.{IsSetting}
use Rattle.transyt_equisat.proofs.FractionLaws.{at_most}
use Rattle.transyt_equisat.proofs.DemandLaws.{not_above_lower, below_lower}
use Rattle.transyt_equisat.proofs.SharingLaws.{sum_pointwise}
use Rattle.transyt_equisat.proofs.PeakLaws.{LinksPass, links_pass, peak_passes, peak_base, under_peak, peak_under}
use Rattle.transyt_equisat.proofs.PlanFits.{one_shorter}
use Rattle.transyt_equisat.proofs.AskedLaws.{first_greens, first_parts, first_count, ArePassing, range_same}
use Rattle.transyt_equisat.proofs.FilledLaws.{filled_passes, demand_live}

-- the needs of the stages
abbrev pub needs_of : Network → NodeValue → Fraction → List ℕ
needs_of net n v = map (need_at net n v) (range_with_len 0 (length n.stages))

-- a fraction neither equal to v nor above it is below it
below_by : (d v : Fraction) → is_same d v ≡ false → is_above d v ≡ false → is_above v d ≡ true
below_by d v other under = grind (arith, nat_tests, other, under)

module _ (net : Network) (n : NodeValue) (v : Fraction) (setting : IsSetting net n) (peak_is : IsLeastPeak (asked_of net n) v) where
  -- no greens that fill the cycle have a lower peak
  pub peak_least : (es : List ℕ) → Fits net.frame.step_count n.stages es → is_above v (peak net n.number es) ≡ false
  peak_least es fits =
      peak_is.least (peak net n.number es) es (peak_base net n setting es fits) fits (under_peak net n setting es fits)

  -- so there are no greens at which each counted link is below it
  none_below : (es : List ℕ) → Fits net.frame.step_count n.stages es → 0 < v.top → LinksPass (λ d. is_above v d) net n es → ⊥
  none_below es fits above below =
      let low = peak_passes net n setting (below_lower v above) es below in
      let high = peak_least es fits in
      cc (low, high)

  -- greens that aren't above it
  pass_under : (es : List ℕ) → Fits net.frame.step_count n.stages es → IsUnder (asked_of net n) es v
      → ArePassing (λ d. not (is_above d v)) net n (λ k. get_or es k 0)
  pass_under es fits under k inside =
      let short = one_shorter net.frame.step_count n.stages es k fits setting.stages.0 setting.least inside in
      (fits.least k inside, omega arith, ap not (under k inside))

  -- the least greens leave room in the cycle
  pub least_room : sum (least_greens net n v) + intergreens n.stages ≤ net.frame.step_count
  least_room =
      let (es, fits, under) = peak_is.reached in
      let count = first_count net n (λ d. not (is_above d v)) in
      let less = sum_pointwise (least_greens net n v) es (omega (arith, fits.count, count)) (λ k below.
      (first_parts net n setting (not_above_lower v) (λ k. get_or es k 0) (pass_under es fits under) k (omega (arith, count))).1) in
      omega (arith, less, fits.fills)

  -- the greens of a least peak fill the cycle
  pub greens_hold : Fits net.frame.step_count n.stages (greens_at net n v)
      × ((k : ℕ) → k < length n.stages → not (is_above (degree_at (asked_of net n) (greens_at net n v) k) v) ≡ true)
  greens_hold =
      let (es, fits, under) = peak_is.reached in
      filled_passes net n setting (not_above_lower v) (λ k. get_or es k 0) (pass_under es fits under) least_room

  -- their peak is the peak
  pub greens_peak : IsSame v (peak net n.number (greens_at net n v))
  greens_peak =
      let p : Fraction = peak net n.number (greens_at net n v) in
      let down = at_most v p (peak_least (greens_at net n v) greens_hold.0) in
      let up = at_most p v (peak_under net n setting (greens_at net n v) greens_hold.0 v
      (λ k inside. not-true (is_above (degree_at (asked_of net n) (greens_at net n v) k) v) (greens_hold.1 k inside))) in
      omega arith

  -- at the whole cycle each stage is below a peak above 0
  whole_below : 0 < v.top → ArePassing (λ d. is_above v d) net n (λ k. net.frame.step_count)
  whole_below above k inside =
      let (es, fits, under) = peak_is.reached in
      let live = mul-pos above (demand_live net n k setting inside) in
      let short = one_shorter net.frame.step_count n.stages es k fits setting.stages.0 setting.least inside in
      let more = mul-le-mul_left (v.top * (get_or (asked_of net n).demands k no_demand).saturation) short in
      let down = at_most (degree_at (asked_of net n) es k) v (under k inside) in
      (omega (arith, fits.least k inside), omega arith, lt-ltb _ _ (omega arith))

  -- needs and intergreens don't fit into the cycle
  pub needs_exceed : 0 < v.top → net.frame.step_count < sum (needs_of net n v) + intergreens n.stages
  needs_exceed above =
      let es : List ℕ = first_greens net n (λ d. is_above v d) in
      let some : nat_eq v.top 0 ≡ false = grind (arith, nat_tests, above) in
      let same : needs_of net n v ≡ es =
      range_same 0 (need_at net n v) (first_green net n (λ d. is_above v d)) (length n.stages) (λ k below. rw some) in
      rw same (elim (cases_lt net.frame.step_count (sum es + intergreens n.stages)) [
        | inl more ↦ more
        | inr room ↦ absurd (
            let gs : List ℕ = first_more (net.frame.step_count - (sum es + intergreens n.stages)) es in
            let (full, below) = filled_passes net n setting (below_lower v above) (λ k. net.frame.step_count) (whole_below above) room in
            none_below gs full above (links_pass net n setting (below_lower v above) gs full below)
            )
      ])

  -- a counted link reaches a peak above 0
  reached_by : 0 < v.top → (l : LinkValue) × (find (reaches net n.number v (greens_at net n v)) net.links ≡ Some l)
      × (reaches net n.number v (greens_at net n v) l ≡ true)
  reached_by above =
      let gs : List ℕ = greens_at net n v in
      let test : LinkValue → Bool = reaches net n.number v gs in
      let place : ℕ = position_or_len test net.links in
      elim (cases_lt place (length net.links)) [
        | inl inside ↦ (
          get_or net.links place no_link,
          find_at test net.links ∙ slice_get-get_or net.links place no_link inside,
          passes_at_first test net.links no_link inside,
        )
        | inr nowhere ↦ absurd (
            let unders = links_pass net n setting (not_above_lower v) gs greens_hold.0 greens_hold.1 in
            none_below gs greens_hold.0 above (
            λ i d there. λ counts.
            let l : LinkValue = get_or net.links i d in
            let deg : Fraction = degree net.frame.step_count l (green_of gs l) in
            below_by deg v (rw counts at (fails_before_first test net.links i d (omega arith)))
            (not-true (is_above deg v) (unders i d there counts))
            )
            )
      ]

  -- the peak that the answer tells is the peak
  pub told : IsSame (peak_told (balance_at net n v)) v
  told =
      elim (cases_Bool (nat_eq v.top 0)) [
        | inl none ↦ rw none (omega (arith, eqb-true _ _ none))
        | inr some ↦
            let (l, is, reaches_it) = reached_by (grind (arith, nat_tests, some)) in
            let same = and_parts (is_counted n.number l) (is_same (degree net.frame.step_count l (green_of (greens_at net n v) l)) v)
            reaches_it in
            rw (some, is) (eqb-true _ _ same.1)
      ]
