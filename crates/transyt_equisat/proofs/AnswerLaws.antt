-- The answer is put together from the demands of the stages and its greens.
use Rattle.std.proofs.Common.{◌≡◌, ℕ, ◌+◌, ◌<◌, ◌≤◌, not, map, length, sum, ◌∙◌, arith}
use Rattle.std.proofs.lemmas.List.{length-map, length-set, get_or-map}
use Rattle.std.proofs.lemmas.List.Elements.{All-from_get_or}
use Rattle.std.proofs.lemmas.List.FromFn.{length-map-range_with_len}
use Rattle.transyt_parts.specs.Parts.{NodeValue}
use Rattle.transyt_parts.specs.declared.node.Stage.{Stage}
use Rattle.transyt_parts.specs.Plan.{no_stage}
use Rattle.transyt_net.specs.Parts.{Network, node_of, no_node}
use Rattle.transyt_net.specs.Valid.{IsValid}
use Rattle.transyt_equisat.specs.declared.fraction.Fraction.{Fraction}
use Rattle.transyt_equisat.specs.Degrees.{is_above}
use Rattle.transyt_equisat.specs.Sharing.{no_demand, demand_in, asked_of, IsAsked}
use Rattle.transyt_equisat.specs.Peaks.{greens_of, intergreens}
use Rattle.transyt_equisat.specs.Balance.{least_greens, greens_at}
use Rattle.transyt_equisat.proofs.SettingLaws.{IsSetting, setting_of}
use Rattle.transyt_equisat.proofs.AskedLaws.{first_count}
use Rattle.transyt_equisat.proofs.FilledLaws.{demand_live}
use Rattle.transyt_equisat.proofs.SharingLaws.{sum_pointwise}

-- the least greens and the intergreens fit into the cycle
own_room : (net : Network) (n : NodeValue) → IsSetting net n
    → sum (map (λ (s : Stage). s.least) n.stages) + intergreens n.stages ≤ net.frame.step_count
own_room net n setting =
    let count = length-map n.stages (λ (s : Stage). s.least) in
    let less = sum_pointwise (map (λ (s : Stage). s.least) n.stages) (greens_of net.frame.step_count n.stages)
    (omega (arith, count, setting.own.count)) (
    λ k below.
    let inside : k < length n.stages = omega (arith, count) in
    omega (arith, setting.own.least k inside, get_or-map (λ (s : Stage). s.least) n.stages k no_stage 0 inside)
    ) in
    omega (arith, less, setting.own.fills)

-- the demands of a valid network's node keep to the invariant
pub asked_holds : (net : Network) (p : ℕ) → IsValid net → p < length net.nodes → IsAsked (asked_of net (node_of net p))
asked_holds net p valid inside =
    let n : NodeValue = node_of net p in
    let setting = setting_of net p valid inside in
    let count = length-map-range_with_len (λ k. demand_in net n.number (k + 1)) 0 (length n.stages) in
    record {
      short = setting.steps.1;
      few = (omega (arith, setting.stages.0), setting.stages.1);
      count = count;
      stages = (valid.sound.nodes p no_node inside).stages;
      live = All-from_get_or (λ d. 0 < d.saturation) (asked_of net n).demands no_demand
          (λ k below. demand_live net n k setting (omega (arith, count)));
      room = own_room net n setting;
    }

-- a green for each stage
pub greens_count : (net : Network) (n : NodeValue) (v : Fraction) → length (greens_at net n v) ≡ length n.stages
greens_count net n v = length-set (least_greens net n v) 0 _ ∙ first_count net n (λ d. not (is_above d v))
