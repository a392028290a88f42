-- Departures of a valid network are below 2^30 in each step, since the green lets no more pass.
use Rattle.std.proofs.Common.{◌≡◌, ℕ, zero, suc, ◌*◌, ◌^◌, ◌<◌, ◌≤◌, Bool, List, length, map, All, Option, Some, None}
use Rattle.std.proofs.Common.{sym, ◌∙◌, arith, if◌then◌else◌}
use Rattle.std.specs.List.{range_with_len}
use Rattle.std.proofs.lemmas.Bool.Decides.{nat_tests}
use Rattle.std.proofs.lemmas.List.FromFn.{get_or-map-range_with_len, length-map-range_with_len}
use Rattle.std.proofs.lemmas.List.Elements.{All-replicate}
use Rattle.std.proofs.Math.Nat.{mul-le-mul, div-le_of_le-mul}
use Rattle.transyt_parts.specs.declared.frame.Frame.{Frame}
use Rattle.transyt_parts.specs.declared.link.GiveWay.{GiveWay}
use Rattle.transyt_parts.specs.Parts.{total_flow}
use Rattle.transyt_parts.specs.Valid.{IsFrame}
use Rattle.transyt_net.specs.Parts.{Network, link_of, no_link, perstep}
use Rattle.transyt_net.specs.Valid.{IsValid, link_place}
use Rattle.transyt_net.proofs.TotalLaws.{total_small}
use Rattle.transyt_stage.specs.Green.{signal, shown_link, green_at, yielded_at}
use Rattle.transyt_profile.specs.StopLine.{arrivals_of, out_at}
use Rattle.transyt_profile.proofs.CutLaws.{arrivals_total}
use Rattle.transyt_profile.proofs.QueueLaws.{out-le-go}
use Rattle.transyt_sweep.specs.Cell.{under_rule, inflow, go, cell_by}
use Rattle.transyt_sweep.specs.Sweeps.{read_of, out_of}
use Rattle.transyt_sweep.proofs.SweepLaws.{out_of_start, out_of_pair}
use Rattle.transyt_sweep.proofs.StepLaws.{length-inflow, length-go, length-cut}

-- a flow in a step, by the limits of a frame
perstep_small : (frame : Frame) → IsFrame frame → (q : ℕ) → q ≤ 100000 → perstep frame q < 2 ^ 30
perstep_small frame limits q few =
    let seconds : q * frame.cycle ≤ 100000 * 240 = mul-le-mul few limits.cycle.1 in
    let most : perstep frame q ≤ 666666667 =
    div-le_of_le-mul (3600 * frame.step_count) (omega (arith, seconds, limits.step_count.0)) in
    omega (arith, most)

-- a list made step by step of values below a limit
made_small : (f : ℕ → ℕ) (limit n : ℕ) → ((i : ℕ) → i < n → f i < limit) → All (λ v. v < limit) (map f (range_with_len 0 n))
made_small f limit n each k d inside =
    let below : k < n = omega (arith, length-map-range_with_len f 0 n) in
    omega (arith, get_or-map-range_with_len f 0 n k k d below (omega arith), each k below)

-- a small value, or nothing
passes : (b : Bool) (value : ℕ) → value < 2 ^ 30 → (if b then value else 0) < 2 ^ 30
passes b value small = grind (arith, nat_tests)

-- the part of the green that a rule leaves
rule_small : (net : Network) (read : ℕ → List ℕ) (rule : Option GiveWay) (green : List ℕ)
    → All (λ v. v < 2 ^ 30) green → All (λ v. v < 2 ^ 30) (under_rule net read rule green)
rule_small net read None green small = small
rule_small net read (Some rule) green small =
    made_small (yielded_at rule.percent (read (link_place net rule.other)) green) (2 ^ 30) (length green)
    (λ i inside. let one = small i 0 inside in grind (arith, nat_tests))

module _ (net : Network) (valid : IsValid net) (l : ℕ) (inside : l < length net.links) where
  -- GO
  go_small : (read : ℕ → List ℕ) → All (λ v. v < 2 ^ 30) (go net read l)
  go_small read =
      let limits = valid.sound.links l no_link inside in
      let few = perstep_small net.frame valid.sound.frame (link_of net l).saturation (omega (arith, limits.saturation.1)) in
      rule_small net read (link_of net l).gives_way (signal net l) (made_small _ (2 ^ 30) net.frame.step_count (λ i _.
      passes (green_at (shown_link net l) (link_of net l).start_lag (link_of net l).end_lag i) _ few))

  -- no more leaves than can go
  cell_small : (read : ℕ → List ℕ) → All (λ v. v < 2 ^ 30) (cell_by net read l).out
  cell_small read =
      let room = go net read l in
      let reaching = arrivals_of (inflow net read l) room in
      let long : length reaching ≡ net.frame.step_count = length-cut (inflow net read l) room ∙ length-inflow net read l in
      let wide = length-go net read l in
      made_small (out_at reaching room) (2 ^ 30) (length reaching) (λ i below. omega (
        arith,
        out-le-go reaching room i (wide ∙ sym long) (arrivals_total (inflow net read l) room) below,
        go_small read i 0 (omega (arith, below, long, wide)),
      ))

  -- at each sweep the departures are small, and the total flow before the first
  pub out_small : (s : ℕ) → All (λ v. v < 2 ^ 30) (out_of net s l)
  out_small zero = rw (out_of_start net l) (All-replicate (λ v. v < 2 ^ 30) net.frame.step_count _
      (perstep_small net.frame valid.sound.frame (total_flow (link_of net l)) (omega (arith, total_small net l valid inside))))
  out_small (suc s) = rw (out_of_pair net (suc s) l (omega arith)) (cell_small (read_of net (suc s) l))
