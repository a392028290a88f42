-- A link that is worked out has a value for each step.
use Rattle.std.proofs.Common.{◌≡◌, ℕ, List, [], ◌∷◌, length, Option, Some, None, refl, ◌∙◌, sum, arith}
use Rattle.std.specs.Prelude.{fold}
use Rattle.std.proofs.lemmas.Bool.Decides.{nat_tests}
use Rattle.std.proofs.lemmas.List.{length-map, length-replicate}
use Rattle.std.proofs.lemmas.List.FromFn.{length-map-range_with_len}
use Rattle.transyt_profile.specs.Profile.{uniform, added}
use Rattle.transyt_profile.proofs.AddedLaws.{length-added}
use Rattle.transyt_parts.specs.declared.link.Feed.{Feed}
use Rattle.transyt_parts.specs.declared.link.GiveWay.{GiveWay}
use Rattle.transyt_net.specs.Parts.{Network, link_of, perstep}
use Rattle.transyt_stage.specs.Green.{signal}
use Rattle.transyt_profile.specs.StopLine.{arrivals_of, scaled}
use Rattle.transyt_sweep.specs.Cell.{HasSteps, brought, inflow, go, under_rule, cell_by}

length-gathered : (net : Network) (read : ℕ → List ℕ) (feeds : List Feed) (come : List ℕ)
    → length (fold (λ c f. added c (brought net read f)) come feeds) ≡ length come
length-gathered net read [] come = refl
length-gathered net read (f ∷ fs) come =
    length-gathered net read fs (added come (brought net read f))
    ∙ length-added come (brought net read f)

-- a value of the arrivals for each step
pub length-inflow : (net : Network) (read : ℕ → List ℕ) (l : ℕ) → length (inflow net read l) ≡ net.frame.step_count
length-inflow net read l =
    length-gathered net read (link_of net l).feeds
    (uniform net.frame.step_count (perstep net.frame (link_of net l).entry))
    ∙ length-replicate net.frame.step_count (perstep net.frame (link_of net l).entry)

length-under_rule : (net : Network) (read : ℕ → List ℕ) (rule : Option GiveWay) (green : List ℕ)
    → length (under_rule net read rule green) ≡ length green
length-under_rule net read None green = refl
length-under_rule net read (Some rule) green = length-map-range_with_len _ 0 (length green)

-- a value of GO for each step
pub length-go : (net : Network) (read : ℕ → List ℕ) (l : ℕ) → length (go net read l) ≡ net.frame.step_count
length-go net read l =
    length-under_rule net read (link_of net l).gives_way (signal net l) ∙ length-map-range_with_len _ 0 net.frame.step_count

-- a value of what reaches the stop line for each that comes
pub length-cut : (come room : List ℕ) → length (arrivals_of come room) ≡ length come
length-cut come room = grind (arith, nat_tests, length-map come (scaled (sum come) (sum room)))

-- a value of each profile for each step
pub cell_steps : (net : Network) (read : ℕ → List ℕ) (l : ℕ) → HasSteps net.frame.step_count (cell_by net read l)
cell_steps net read l =
    let reaching = length-cut (inflow net read l) (go net read l) ∙ length-inflow net read l in
    record {
      arrivals = length-inflow net read l;
      go = length-go net read l;
      queue = length-map-range_with_len _ 0 _ ∙ reaching;
      out = length-map-range_with_len _ 0 _ ∙ reaching;
    }
