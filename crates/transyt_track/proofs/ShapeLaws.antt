-- Networks of one shape have equal counts, numbers, feeders and rules, so places are the same in both.
use Rattle.std.proofs.Common.{◌≡◌, ℕ, ◌<◌, List, length, map, All, IfSome, Option, Some, None}
use Rattle.std.proofs.Common.{refl, ap, sym, subst, get_or, ◌∙◌, arith}
use Rattle.std.specs.Option.{option_map}
use Rattle.std.proofs.lemmas.List.{get_or-map, get_or_default}
use Rattle.std.proofs.lemmas.List.Elements.{All-map}
use Rattle.std.proofs.lemmas.Simd.{map-map}
use Rattle.transyt_parts.specs.declared.link.Feed.{Feed}
use Rattle.transyt_parts.specs.declared.link.GiveWay.{GiveWay}
use Rattle.transyt_parts.specs.Made.{bare_node, bare_feed, bare_link}
use Rattle.transyt_parts.proofs.CopyLaws.{same_length}
use Rattle.transyt_net.specs.Parts.{Network, link_of, no_link, SameShape}
use Rattle.transyt_net.specs.Valid.{place_of, found_or_first, link_place}
use Rattle.transyt_net.proofs.PlaceLaws.{link_place-lt}
use Rattle.transyt_net.proofs.ShapeLaws.{same_node_numbers, same_link_numbers}
use Rattle.transyt_kept.specs.Rows.{RowsValue}
use Rattle.transyt_sweep.specs.Reading.{Fits}
use Rattle.transyt_track.specs.Own.{feeder_place, node_place, rule_place, places_at, ArePlaces, PlacesValue, IsRead}

rule_inside : (net : Network) → 0 < length net.links → (rule : Option GiveWay)
    → IfSome (rule_place net rule) (λ j. j < length net.links)
rule_inside net some None = tt
rule_inside net some (Some rule) = link_place-lt net rule.other some

module _ (a b : Network) (same : SameShape a b) where
  pub shape_count : length a.links ≡ length b.links
  shape_count = same_length bare_link a.links b.links (λ j. (same j).links)

  pub shape_nodes : length a.nodes ≡ length b.nodes
  shape_nodes = same_length bare_node a.nodes b.nodes (λ j. (same j).nodes)

  -- rows that fit one network fit each of its shape
  pub fits_shape : (rows : RowsValue) → Fits a rows → Fits b rows
  fits_shape rows fits = record {
    step_count = fits.step_count ∙ (λ j. (same j).frame.step_count);
    sweeps = fits.sweeps ∙ (λ j. (same j).frame.sweeps);
    link_count = fits.link_count ∙ shape_count;
  }

  pub shape_link_place : (number : ℕ) → link_place a number ≡ link_place b number
  shape_link_place number = ap (λ ns. found_or_first (place_of ns number)) (same_link_numbers a b same)

  shape_node_place : (number : ℕ) → node_place a number ≡ node_place b number
  shape_node_place number = ap (λ ns. found_or_first (place_of ns number)) (same_node_numbers a b same)

  -- links at one place have one shape
  pub shape_link : (l : ℕ) → l < length a.links → bare_link (link_of a l) ≡ bare_link (link_of b l)
  shape_link l inside =
      sym (get_or-map bare_link a.links l no_link no_link inside)
      ∙ (λ j. get_or (same j).links l no_link)
      ∙ get_or-map bare_link b.links l no_link no_link (omega (arith, shape_count))

  -- the places of their links
  pub shape_places : (l : ℕ) → l < length a.links → places_at a l ≡ places_at b l
  shape_places l inside =
      let bare = shape_link l inside in
      let feeders : (places_at a l).feeders ≡ (places_at b l).feeders =
      sym (map-map (feeder_place a) bare_feed (link_of a l).feeds)
      ∙ (λ j. map (λ (f : Feed). shape_link_place f.feeder j) (bare j).feeds)
      ∙ map-map (feeder_place b) bare_feed (link_of b l).feeds in
      (λ j. record {
        node = shape_node_place (bare j).node j;
        feeders = feeders j;
        rule = option_map (λ (way : GiveWay). shape_link_place way.other j) (bare j).gives_way;
      })

  -- each link reads links of both
  pub shape_read : (l : ℕ) → l < length b.links → IsRead a b l (places_at a l)
  shape_read l inside =
      let there : l < length a.links = omega (arith, shape_count) in
      let some : 0 < length b.links = omega arith in
      let is = shape_places l there in
      record {
        inside_before = there;
        inside = inside;
        places_before = refl;
        places_after = is;
        feeders = subst (λ (x : PlacesValue). All (λ j. j < length b.links) x.feeders) (sym is)
            (All-map (λ j. j < length b.links) (feeder_place b) (link_of b l).feeds
            (λ k d h. link_place-lt b (get_or (link_of b l).feeds k d).feeder some));
        rule = subst (λ (x : PlacesValue). IfSome x.rule (λ j. j < length b.links)) (sym is)
            (rule_inside b some (link_of b l).gives_way);
      }

  -- and so does one whose places are read from the table
  pub table_read : (places : List PlacesValue) → ArePlaces a places → (l : ℕ) → l < length b.links → (p : PlacesValue)
      → IsRead a b l (get_or places l p)
  table_read places all l inside p =
      let there : l < length places = omega (arith, all.count, shape_count) in
      rw (get_or_default places l p (places_at a l) there ∙ all.at l (omega (arith, shape_count))) (shape_read l inside)

  -- and a table of places serves both
  pub shape_table : (places : List PlacesValue) → ArePlaces a places → ArePlaces b places
  shape_table places all = record {
    count = all.count ∙ shape_count;
    at = λ l inside.
        let there : l < length a.links = omega (arith, shape_count) in
        subst (λ p. get_or places l p ≡ p) (shape_places l there) (all.at l there);
  }
