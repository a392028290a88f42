-- The node of a link stands at its place.
use Rattle.std.proofs.Common.{◌≡◌, ◌↔◌, ℕ, ◌<◌, Bool, true, false, List, [], ◌∷◌, ◌++◌, take, length}
use Rattle.std.proofs.Common.{Option, Some, None, refl, ap, sym, ◌∙◌, arith, option_to_list}
use Rattle.std.specs.List.{slice_get}
use Rattle.std.specs.Option.{is_some}
use Rattle.std.proofs.Math.Seq.{take-append_seam}
use Rattle.std.proofs.lemmas.Bool.{true≢false}
use Rattle.std.proofs.lemmas.List.FromFn.{length-map-range_with_len, get_or-map-range_with_len}
use Rattle.transyt_parts.specs.Valid.{node_number}
use Rattle.transyt_net.specs.Parts.{Network, link_of, node_of, no_link, no_node}
use Rattle.transyt_net.specs.Edits.{the_node, node_in}
use Rattle.transyt_net.specs.Valid.{IsValid, place_of, node_numbers, is_among, found_or_first}
use Rattle.transyt_net.proofs.PlaceLaws.{place_is, place_found, numbered_here}
use Rattle.transyt_track.specs.Own.{node_place, places_at, PlacesValue, all_places, ArePlaces, SameTimes, HaveNode}
use Rattle.transyt_track.specs.Front.{flag, AreDownWhere}

node_at_place : (net : Network) (number : ℕ) → is_among (node_numbers net.nodes) number ≡ true
    → (node_place net number < length net.nodes) × (the_node net number ≡ node_of net (node_place net number))
node_at_place net number among = by (place_of (node_numbers net.nodes) number) refl
  where
    by : (o : Option ℕ) → place_of (node_numbers net.nodes) number ≡ o
        → (found_or_first o < length net.nodes) × (the_node net number ≡ node_of net (found_or_first o))
    by None at =
        absurd (true≢false (sym among ∙ sym (place_found (node_numbers net.nodes) number) ∙ ap is_some at))
    by (Some p) at =
        let place = place_is node_number net.nodes number p at in
        (place.inside, ap node_in (numbered_here node_number net.nodes number p no_node place))

-- in a valid network each link's node stands at its place
node_here : (net : Network) (l : ℕ) (places : PlacesValue) → IsValid net → l < length net.links
    → places ≡ places_at net l
    → (places.node < length net.nodes) × (the_node net (link_of net l).node ≡ node_of net places.node)
node_here net l places valid inside is =
    rw is (node_at_place net (link_of net l).node (valid.sound.links l no_link inside).node)

-- the place of a link's node is inside the list of nodes
pub node_inside : (net : Network) (l : ℕ) (places : PlacesValue) → IsValid net → l < length net.links
    → places ≡ places_at net l → places.node < length net.nodes
node_inside net l places valid inside is = (node_here net l places valid inside is).0

-- the node's times are equal just where they are for the link
pub times_here : (a b : Network) (l : ℕ) {places : PlacesValue} → IsValid a → IsValid b → l < length a.links
    → l < length b.links → places ≡ places_at a l → places ≡ places_at b l
    → (HaveNode a b places.node ↔ SameTimes (the_node a (link_of a l).node) (the_node b (link_of b l).node))
times_here a b l {places} valid_a valid_b inside_a inside_b is_a is_b =
    rw ((node_here a l places valid_a inside_a is_a).1, (node_here b l places valid_b inside_b is_b).1) (λ h. h, λ h. h)

-- and the flag of the link's node is down just there
pub flag_here : (a b : Network) (l : ℕ) {places : PlacesValue} → IsValid a → IsValid b → l < length a.links
    → l < length b.links → places ≡ places_at a l → places ≡ places_at b l → {flags : List Bool}
    → AreDownWhere (HaveNode a b) (length b.nodes) flags
    → (flag flags places.node ≡ false ↔ SameTimes (the_node a (link_of a l).node) (the_node b (link_of b l).node))
flag_here a b l {places} valid_a valid_b inside_a inside_b is_a is_b all =
    rw ((node_here a l places valid_a inside_a is_a).1, (node_here b l places valid_b inside_b is_b).1)
    (all.down places.node (node_inside b l places valid_b inside_b is_b))

-- the table of all places
pub all_places_are : (net : Network) → ArePlaces net (all_places net)
all_places_are net = record {
  count = length-map-range_with_len (places_at net) 0 (length net.links);
  at = λ l inside.
      get_or-map-range_with_len (places_at net) 0 (length net.links) l l (places_at net l) inside (omega arith);
}

rule_after : (feeders : List ℕ) (rule : Option ℕ)
    → slice_get (feeders ++ option_to_list rule) (length feeders) ≡ rule
rule_after [] None = refl
rule_after [] (Some place) = refl
rule_after (feeder ∷ feeders) rule = rule_after feeders rule

-- the feeders with the link of the rule after them are the places of a link
pub places_read : (net : Network) (l node count : ℕ) (read feeders : List ℕ) → node ≡ (places_at net l).node
    → feeders ≡ (places_at net l).feeders → count ≡ length feeders
    → read ≡ feeders ++ option_to_list (places_at net l).rule
    → record { node = node; feeders = take count read; rule = slice_get read count } ≡ places_at net l
places_read net l node count read feeders node_is feeders_are count_is read_is =
    let rule = (places_at net l).rule in
    (λ j. record { node = node_is j; feeders = take (count_is j) (read_is j); rule = slice_get (read_is j) (count_is j) })
    ∙ (λ j. record {
      node = (places_at net l).node;
      feeders = (take-append_seam feeders (option_to_list rule) ∙ feeders_are) j;
      rule = rule_after feeders rule j;
    })
