-- A link has equal work on two networks of one shape that give it equal own data, of equal departures.
use Rattle.std.proofs.Common.{◌≡◌, ℕ, ◌<◌, false, List, [], ◌∷◌, Option, Some, None, length, map}
use Rattle.std.proofs.Common.{refl, ap, sym, ◌∙◌, arith}
use Rattle.std.specs.Prelude.{fold}
use Rattle.std.specs.List.{list_any, range_with_len}
use Rattle.std.specs.Option.{option_map_or}
use Rattle.std.proofs.lemmas.Bool.{or_parts}
use Rattle.std.proofs.lemmas.Bool.Decides.{nat_tests}
use Rattle.transyt_profile.specs.Profile.{uniform, added, shared}
use Rattle.transyt_profile.specs.Platoon.{travel_steps, dispersed}
use Rattle.transyt_parts.specs.declared.node.Stage.{Stage}
use Rattle.transyt_parts.specs.declared.link.Feed.{Feed}
use Rattle.transyt_parts.specs.declared.link.GiveWay.{GiveWay}
use Rattle.transyt_parts.specs.Parts.{NodeValue, LinkValue}
use Rattle.transyt_parts.specs.Made.{bare_stage, bare_node, bare_feed, new_weights}
use Rattle.transyt_parts.specs.Valid.{node_number}
use Rattle.transyt_net.specs.Parts.{Network, link_of, perstep, SameShape}
use Rattle.transyt_net.specs.Edits.{the_node, node_in}
use Rattle.transyt_net.specs.Valid.{numbered, link_place}
use Rattle.transyt_stage.specs.Green.{signal, shown_of, passed_at, yielding}
use Rattle.transyt_sweep.specs.Cell.{brought, inflow, under_rule, go}
use Rattle.transyt_sweep.specs.Sweeps.{read_at, read_of}
use Rattle.transyt_track.specs.Due.{read_differs}
use Rattle.transyt_track.specs.Own.{own, change_of, flow_of, cruise_of, feeder_place, feeder_total, rule_place, places_at}
use Rattle.transyt_track.proofs.DueLaws.{same_out}
use Rattle.transyt_track.proofs.ShapeLaws.{shape_link, shape_link_place}

stages_same : (xs ys : List Stage) → map bare_stage xs ≡ map bare_stage ys → map change_of xs ≡ map change_of ys
    → xs ≡ ys
stages_same [] [] bare changes = refl
stages_same [] (y ∷ ys) bare changes = absurd (cc)
stages_same (x ∷ xs) [] bare changes = absurd (cc)
stages_same (x ∷ xs) (y ∷ ys) bare changes = grind (arith, stages_same xs ys)

feeds_same : (xs ys : List Feed) → map bare_feed xs ≡ map bare_feed ys → map flow_of xs ≡ map flow_of ys
    → map cruise_of xs ≡ map cruise_of ys → xs ≡ ys
feeds_same [] [] bare flows cruises = refl
feeds_same [] (y ∷ ys) bare flows cruises = absurd (cc)
feeds_same (x ∷ xs) [] bare flows cruises = absurd (cc)
feeds_same (x ∷ xs) (y ∷ ys) bare flows cruises = grind (arith, feeds_same xs ys)

bare_numbered : (nodes : List NodeValue) (k : ℕ)
    → node_in (numbered node_number (map bare_node nodes) k) ≡ bare_node (node_in (numbered node_number nodes k))
bare_numbered [] k = refl
bare_numbered (node ∷ nodes) k = grind (arith, nat_tests, bare_numbered nodes k)

-- all but the weights
abbrev unweighted : LinkValue → LinkValue
unweighted link = record link { weights = new_weights 0 0 }

module _ (a b : Network) (l : ℕ) (same : SameShape a b) (inside : l < length a.links) (owned : own a l ≡ own b l) where
  link_same : unweighted (link_of a l) ≡ unweighted (link_of b l)
  link_same =
      let bare = shape_link a b same l inside in
      let feeds = feeds_same (link_of a l).feeds (link_of b l).feeds (λ j. (bare j).feeds) (λ j. (owned j).flows)
      (λ j. (owned j).cruises) in
      (λ j. record (bare j) { entry = (owned j).entry; saturation = (owned j).saturation; feeds = feeds j })

  node_same : the_node a (link_of a l).node ≡ the_node b (link_of b l).node
  node_same =
      let x = the_node a (link_of a l).node in
      let y = the_node b (link_of b l).node in
      let bare : bare_node x ≡ bare_node y =
      sym (bare_numbered a.nodes (link_of a l).node)
      ∙ (λ j. node_in (numbered node_number (same j).nodes (link_same j).node))
      ∙ bare_numbered b.nodes (link_of b l).node in
      let stages = stages_same x.stages y.stages (λ j. (bare j).stages) (λ j. (owned j).changes) in
      (λ j. record (bare j) { offset = (owned j).offset; stages = stages j })

  signal_same : signal a l ≡ signal b l
  signal_same =
      (λ j. map (passed_at (shown_of (same j).frame.step_count (node_same j) (link_same j).stages)
      (link_same j).start_lag (link_same j).end_lag (perstep (same j).frame (link_same j).saturation))
      (range_with_len 0 (same j).frame.step_count))

  -- with no rule GO is the same, whatever is read
  pub green_same : (x y : ℕ → List ℕ) → (link_of b l).gives_way ≡ None → go a x l ≡ go b y l
  green_same x y none =
      ap (λ r. under_rule a x r (signal a l)) ((λ j. (link_same j).gives_way) ∙ none)
      ∙ signal_same
      ∙ sym (ap (λ r. under_rule b y r (signal b l)) none)

  module _ (s : ℕ) where
    same_read : (number : ℕ) → read_differs a b s l (link_place a number) ≡ false
        → read_of a s l (link_place a number) ≡ read_of b s l (link_place b number)
    same_read number none =
        same_out a b (read_at s l (link_place a number)) (link_place a number) none
        ∙ ap (read_of b s l) (shape_link_place a b same number)

    gathered_same : (feeds : List Feed) (come : List ℕ) → map (feeder_total a) feeds ≡ map (feeder_total b) feeds
        → list_any (read_differs a b s l) (map (feeder_place a) feeds) ≡ false
        → fold (λ c f. added c (brought a (read_of a s l) f)) come feeds
        ≡ fold (λ c f. added c (brought b (read_of b s l) f)) come feeds
    gathered_same [] come totals none = refl
    gathered_same (f ∷ fs) come totals none =
        let total : feeder_total a f ≡ feeder_total b f = cc in
        let rest : map (feeder_total a) fs ≡ map (feeder_total b) fs = cc in
        let parts = or_parts (read_differs a b s l (feeder_place a f))
        (list_any (read_differs a b s l) (map (feeder_place a) fs)) none in
        let read = same_read f.feeder parts.0 in
        (λ j. fold (λ c g. added c (brought a (read_of a s l) g)) (added come (dispersed (shared f.flow (total j) (read j))
        (travel_steps f.cruise (same j).frame.step_count (same j).frame.cycle) (same j).frame.dispersion)) fs)
        ∙ gathered_same fs (added come (brought b (read_of b s l) f)) rest parts.1

    -- where equal departures are read of the feeders, the arrivals are the same
    pub inflow_same : list_any (read_differs a b s l) (places_at a l).feeders ≡ false
        → inflow a (read_of a s l) l ≡ inflow b (read_of b s l) l
    inflow_same none =
        gathered_same (link_of a l).feeds (uniform a.frame.step_count (perstep a.frame (link_of a l).entry))
        ((λ j. (owned j).totals) ∙ sym (λ j. map (feeder_total b) (link_same j).feeds)) none
        ∙ (λ j. fold (λ c f. added c (brought b (read_of b s l) f))
        (uniform (same j).frame.step_count (perstep (same j).frame (link_same j).entry)) (link_same j).feeds)

    under_rule_same : (rule : Option GiveWay) (green : List ℕ)
        → option_map_or (read_differs a b s l) (rule_place a rule) false ≡ false
        → under_rule a (read_of a s l) rule green ≡ under_rule b (read_of b s l) rule green
    under_rule_same None green none = refl
    under_rule_same (Some r) green none = ap (λ o. yielding r.percent o green) (same_read r.other none)

    -- and where they are of the link of the rule, GO is
    pub go_same : option_map_or (read_differs a b s l) (places_at a l).rule false ≡ false
        → go a (read_of a s l) l ≡ go b (read_of b s l) l
    go_same none =
        under_rule_same (link_of a l).gives_way (signal a l) none
        ∙ (λ j. under_rule b (read_of b s l) (link_same j).gives_way (signal_same j))
