-- A link is worked out of the departures of links that there are.
use Rattle.std.proofs.Common.{◌≡◌, ℕ, ◌<◌, List, length, Option, Some, None, refl, ap, ◌∙◌}
use Rattle.std.proofs.lemmas.List.Folds.{fold_along}
use Rattle.transyt_profile.specs.Profile.{added, shared}
use Rattle.transyt_profile.specs.Platoon.{travel_steps, dispersed}
use Rattle.transyt_parts.specs.declared.link.Feed.{Feed}
use Rattle.transyt_parts.specs.declared.link.GiveWay.{GiveWay}
use Rattle.transyt_parts.specs.Parts.{total_flow}
use Rattle.transyt_net.specs.Parts.{Network, link_of}
use Rattle.transyt_net.specs.Valid.{link_place}
use Rattle.transyt_net.proofs.PlaceLaws.{link_place-lt}
use Rattle.transyt_stage.specs.Green.{signal, yielding}
use Rattle.transyt_sweep.specs.Cell.{brought, inflow, under_rule, go, cell_of, cell_by}

module _ (net : Network) (x y : ℕ → List ℕ) (some : 0 < length net.links)
    (same : (j : ℕ) → j < length net.links → x j ≡ y j) where
  brought_same : (f : Feed) → brought net x f ≡ brought net y f
  brought_same f =
      ap (λ o. dispersed (shared f.flow (total_flow (link_of net (link_place net f.feeder))) o)
      (travel_steps f.cruise net.frame.step_count net.frame.cycle) net.frame.dispersion)
      (same (link_place net f.feeder) (link_place-lt net f.feeder some))

  under_rule_same : (rule : Option GiveWay) (green : List ℕ) → under_rule net x rule green ≡ under_rule net y rule green
  under_rule_same None green = refl
  under_rule_same (Some rule) green =
      ap (λ o. yielding rule.percent o green) (same (link_place net rule.other) (link_place-lt net rule.other some))

  -- equal departures of all links give equal work
  pub cell_same : (l : ℕ) → cell_by net x l ≡ cell_by net y l
  cell_same l =
      ap (λ c. cell_of net l c (go net x l))
      (fold_along (λ c f. added c (brought net x f)) (λ c f. added c (brought net y f)) (λ c d. c ≡ d)
      (λ c d f is. λ j. added (is j) (brought_same f j)) _ _ (link_of net l).feeds refl)
      ∙ ap (cell_of net l (inflow net y l)) (under_rule_same (link_of net l).gives_way (signal net l))
