-- The peak over the counted links is that over what the stages ask.
use Rattle.std.proofs.Common.{◌≡◌, ℕ, ◌+◌, ◌-◌, ◌<◌, Bool, true, false, not, nat_eq, List, All, map, length}
use Rattle.std.proofs.Common.{sym, ◌∙◌, ap, arith, get_or, mul-pos, eq-eqb, eqb-true}
use Rattle.std.proofs.lemmas.Bool.{not-true, and_parts, and_from}
use Rattle.std.specs.List.{filter}
use Rattle.std.proofs.lemmas.List.Sums.{AllPass-from_list_all, list_all-from_AllPass}
use Rattle.transyt_parts.specs.Parts.{NodeValue, LinkValue}
use Rattle.transyt_net.specs.Parts.{Network}
use Rattle.transyt_equisat.specs.declared.fraction.Fraction.{Fraction}
use Rattle.transyt_equisat.specs.Degrees.{is_above, nothing, is_counted, counts_in, degree, first_stage}
use Rattle.transyt_equisat.specs.Sharing.{asked_of, degree_at, IsUnder}
use Rattle.transyt_equisat.specs.Peaks.{Fits, green_of, peak}
use Rattle.transyt_equisat.proofs.SettingLaws.{IsSetting}
use Rattle.transyt_equisat.proofs.DemandLaws.{IsLower, stage_tested, not_above_lower}
use Rattle.transyt_equisat.proofs.ExtremeLaws.{HasBase, extreme_has, all_under}
use Rattle.transyt_equisat.proofs.FilterLaws.{picked_each, each_picked, all_mapped, mapped_all}

-- each counted link has a degree at these greens that passes a test
abbrev pub LinksPass : (Fraction → Bool) → Network → NodeValue → List ℕ → Type 0
LinksPass test net n es =
    All (λ l. is_counted n.number l ≡ true → test (degree net.frame.step_count l (green_of es l)) ≡ true) net.links

-- and each stage has one
abbrev pub StagesPass : (Fraction → Bool) → Network → NodeValue → List ℕ → Type 0
StagesPass test net n es = (k : ℕ) → k < length n.stages → test (degree_at (asked_of net n) es k) ≡ true

module _ (net : Network) (n : NodeValue) (setting : IsSetting net n) where
  -- the greens of stages are positive
  pub green_alive : (es : List ℕ) → Fits net.frame.step_count n.stages es → (k : ℕ) → k < length n.stages → 0 < get_or es k 0
  green_alive es fits k inside = omega (arith, setting.least k inside, fits.least k inside)

  -- a lower test that each stage passes, each counted link passes
  pub links_pass : {test : Fraction → Bool} → IsLower test → (es : List ℕ) → Fits net.frame.step_count n.stages es
      → StagesPass test net n es → LinksPass test net n es
  links_pass {test} lower es fits pass = λ i d there.
      let l : LinkValue = get_or net.links i d in
      λ counts.
      let stage = setting.within i d there counts in
      let k : ℕ = first_stage l - 1 in
      let e : ℕ = get_or es k 0 in
      let inside : k < length n.stages = omega (arith, stage.0, stage.1) in
      picked_each (λ l. test (degree net.frame.step_count l e) ≡ true) (counts_in n.number (k + 1)) net.links
      (AllPass-from_list_all (λ l. test (degree net.frame.step_count l e)) (filter (counts_in n.number (k + 1)) net.links)
      (stage_tested lower net n k e (green_alive es fits k inside) inside setting.live ∙ pass k inside))
      i d there (and_from _ _ counts (eq-eqb (first_stage l) (k + 1) (omega (arith, stage.0))))

  -- and the other way round
  pub stages_pass : {test : Fraction → Bool} → IsLower test → (es : List ℕ) → Fits net.frame.step_count n.stages es
      → LinksPass test net n es → StagesPass test net n es
  stages_pass {test} lower es fits pass k inside =
      let e : ℕ = get_or es k 0 in
      let each : All (λ l. counts_in n.number (k + 1) l ≡ true → test (degree net.frame.step_count l e) ≡ true) net.links =
      λ i d there. λ counts.
      let l : LinkValue = get_or net.links i d in
      let both = and_parts (is_counted n.number l) (nat_eq (first_stage l) (k + 1)) counts in
      let place : first_stage l - 1 ≡ k = omega (arith, eqb-true _ _ both.1) in
      ap (λ j. test (degree net.frame.step_count l (get_or es j 0))) (sym place) ∙ pass i d there both.0 in
      sym (stage_tested lower net n k e (green_alive es fits k inside) inside setting.live)
      ∙ list_all-from_AllPass (λ l. test (degree net.frame.step_count l e)) (filter (counts_in n.number (k + 1)) net.links)
      (each_picked (λ l. test (degree net.frame.step_count l e) ≡ true) (counts_in n.number (k + 1)) net.links each)

  -- a lower test that each counted link passes, the peak passes
  pub peak_passes : {test : Fraction → Bool} → IsLower test → (es : List ℕ) → LinksPass test net n es
      → test (peak net n.number es) ≡ true
  peak_passes {test} lower es pass =
      let deg : LinkValue → Fraction = λ l. degree net.frame.step_count l (green_of es l) in
      extreme_has is_above (λ d. test d ≡ true) (map deg (filter (is_counted n.number) net.links)) nothing (lower.none 0 1 (omega arith))
      (all_mapped (λ d. test d ≡ true) deg (is_counted n.number) net.links pass)

  module _ (es : List ℕ) (fits : Fits net.frame.step_count n.stages es) where
    -- the degrees of the counted links
    abbrev degrees : List Fraction
    degrees = map (λ l. degree net.frame.step_count l (green_of es l)) (filter (is_counted n.number) net.links)

    -- they have positive bases
    bases : All HasBase degrees
    bases =
        all_mapped HasBase (λ l. degree net.frame.step_count l (green_of es l)) (is_counted n.number) net.links (
        λ i d below. λ counts.
        let l : LinkValue = get_or net.links i d in
        let stage = setting.within i d below counts in
        mul-pos {n = green_of es l} (setting.live i d below)
        (green_alive es fits (first_stage l - 1) (omega (arith, stage.0, stage.1)))
        )

    -- the base of a peak is positive
    pub peak_base : 0 < (peak net n.number es).base
    peak_base = extreme_has is_above HasBase degrees nothing (omega arith) bases

    -- no stage is above the peak
    pub under_peak : IsUnder (asked_of net n) es (peak net n.number es)
    under_peak k inside =
        let top : Fraction = peak net n.number es in
        not-true (is_above (degree_at (asked_of net n) es k) top)
        (stages_pass (not_above_lower top) es fits
        (λ i d there. λ counts. ap not (mapped_all (λ d. is_above d top ≡ false)
        (λ l. degree net.frame.step_count l (green_of es l)) (is_counted n.number) net.links (all_under degrees bases) i d there counts))
        k inside)

    -- where no stage is above v, the peak isn't
    pub peak_under : (v : Fraction) → IsUnder (asked_of net n) es v → is_above (peak net n.number es) v ≡ false
    peak_under v under =
        not-true (is_above (peak net n.number es) v)
        (peak_passes (not_above_lower v) es (links_pass (not_above_lower v) es fits (λ k inside. ap not (under k inside))))
