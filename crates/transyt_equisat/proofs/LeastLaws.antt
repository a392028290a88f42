-- The least peak of the definition is the least in the sense of what the stages ask, and there is only one.
use Rattle.std.proofs.Common.{◌≡◌, ℕ, ◌<◌, false, List, All, map, length, get_or, arith}
use Rattle.std.specs.List.{Contains}
use Rattle.std.proofs.lemmas.List.{length-map}
use Rattle.std.proofs.lemmas.List.Elements.{All-map, All-contains}
use Rattle.transyt_parts.specs.Parts.{NodeValue}
use Rattle.transyt_net.specs.Parts.{Network}
use Rattle.transyt_equisat.specs.declared.fraction.Fraction.{Fraction}
use Rattle.transyt_equisat.specs.Degrees.{is_above, IsSame}
use Rattle.transyt_equisat.specs.Peaks.{Fits, peak, greens_of}
use Rattle.transyt_equisat.specs.Balance.{all_greens, least_of, least_peak}
use Rattle.transyt_equisat.specs.Sharing.{AskedValue, asked_of, IsUnder, IsLeastPeak}
use Rattle.transyt_equisat.proofs.SettingLaws.{IsSetting}
use Rattle.transyt_equisat.proofs.FractionLaws.{at_most, not_above-trans}
use Rattle.transyt_equisat.proofs.ExtremeLaws.{least_under, least_of_some}
use Rattle.transyt_equisat.proofs.PeakLaws.{peak_base, under_peak, peak_under}
use Rattle.transyt_equisat.proofs.EnumLaws.{all_fit, fits_listed, Contains_map}

-- a fact of the peaks of all greens that fit
all_peaks : (net : Network) (n : NodeValue) (P : Fraction → Type 0)
    → ((es : List ℕ) → Fits net.frame.step_count n.stages es → P (peak net n.number es))
    → All P (map (peak net n.number) (all_greens n.stages net.frame.step_count))
all_peaks net n P each =
    let all = all_greens n.stages net.frame.step_count in
    All-map P (peak net n.number) all (λ k d below. each (get_or all k d) (all_fit n.stages net.frame.step_count k d below))

-- the least peak of the definition is a least peak
pub least_is_least : (net : Network) (n : NodeValue) → IsSetting net n
    → IsLeastPeak (asked_of net n) (least_peak net n)
least_is_least net n setting =
    let steps = net.frame.step_count in
    let peaks : List Fraction = map (peak net n.number) (all_greens n.stages steps) in
    let own : Contains (all_greens n.stages steps) (greens_of steps n.stages) =
    fits_listed n.stages steps (greens_of steps n.stages) setting.own in
    let some : 0 < length peaks = omega (arith, length-map (all_greens n.stages steps) (peak net n.number), own.1) in
    let based = all_peaks net n (λ d. 0 < d.base) (λ es. peak_base net n setting es) in
    record {
      base = least_of_some (λ d. 0 < d.base) peaks some based;
      reached = least_of_some (λ d. (es : List ℕ) × Fits steps n.stages es × IsUnder (asked_of net n) es d) peaks some
          (all_peaks net n (λ d. (es : List ℕ) × Fits steps n.stages es × IsUnder (asked_of net n) es d)
          (λ es fits. (es, fits, under_peak net n setting es fits)));
      least = λ w es pos fits under.
          let listed = Contains_map (peak net n.number) (all_greens n.stages steps) es (fits_listed n.stages steps es fits) in
          not_above-trans (least_of peaks) (peak net n.number es) w (peak_base net n setting es fits)
          (All-contains (λ d. is_above (least_of peaks) d ≡ false) peaks (peak net n.number es) (least_under peaks based) listed)
          (peak_under net n setting es fits w under);
    }

-- two least peaks are equal
pub least_same : (a : AskedValue) (v w : Fraction) → IsLeastPeak a v → IsLeastPeak a w → IsSame v w
least_same a v w one two =
    let (es, es_fits, es_under) = one.reached in
    let (fs, fs_fits, fs_under) = two.reached in
    let down = at_most v w (one.least w fs two.base fs_fits fs_under) in
    let up = at_most w v (two.least v es one.base es_fits es_under) in
    omega arith
