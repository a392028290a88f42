-- An edit of a node alters the times of that node alone.
use Rattle.std.proofs.Common.{◌≡◌, ◌≢◌, ◌↔◌, ◌⊎◌, inl, inr, ℕ, Bool, true, false, not, ◌&&◌, IsTrue, Option}
use Rattle.std.proofs.Common.{Some, None, IfSome, get_or, refl, ap, sym, subst, ◌∙◌, arith, nat_eq}
use Rattle.std.proofs.lemmas.Bool.{cases_eq}
use Rattle.std.proofs.lemmas.Bool.Decides.{nat_tests}
use Rattle.std.proofs.lemmas.List.{get_or-set_other}
use Rattle.transyt_parts.specs.Parts.{NodeValue}
use Rattle.transyt_parts.specs.Valid.{node_number}
use Rattle.transyt_net.specs.declared.edit.Edit.{Edit}
use Rattle.transyt_net.specs.declared.edit.Edit.TheVariants.{Offset, Change}
use Rattle.transyt_net.specs.Parts.{Network, node_of, link_of, no_node, no_link}
use Rattle.transyt_net.specs.Edits.{with_edit, set_offset, set_change}
use Rattle.transyt_net.specs.Valid.{IsValid, on_numbered, place_of, node_numbers}
use Rattle.transyt_net.proofs.PlaceLaws.{place_is, on_numbered_here, length_kept}
use Rattle.transyt_track.specs.Own.{SameTimes, SameNumbers, HaveNode, HaveData, DifferAt, IsRead, PlacesValue}
use Rattle.transyt_track.proofs.PlaceLaws.{times_here}

-- where something is done to the node of a number, the networks differ in its place alone
node_differs : (net : Network) (f : NodeValue → NodeValue) (node p : ℕ)
    → place_of (node_numbers net.nodes) node ≡ Some p
    → DifferAt p net (record net { nodes = on_numbered node_number f net.nodes node })
node_differs net f node p at =
    let place = place_is node_number net.nodes node p at in
    record {
      inside = omega (arith, place.inside, length_kept node_number f net.nodes node);
      links = refl;
      nodes = λ other apart.
          subst (SameTimes (node_of net other))
          (sym (ap (λ ns. get_or ns other no_node) (on_numbered_here node_number f net.nodes node p no_node place)
          ∙ get_or-set_other net.nodes p other (f (get_or net.nodes p no_node)) no_node apart))
          record { offset = refl; changes = refl };
    }

pub node_edited : (net : Network) (e : Edit) (node : ℕ) (o : Option ℕ) → o ≡ place_of (node_numbers net.nodes) node
    → ((x : ℕ) × (e ≡ Offset node x)) ⊎ ((x : ℕ) × (y : ℕ) × (e ≡ Change node x y))
    → IfSome o (λ p. DifferAt p net (with_edit net e))
node_edited net e node None at is = tt
node_edited net e node (Some p) at (inl is) = rw is.1 (node_differs net (set_offset is.0) node p (sym at))
node_edited net e node (Some p) at (inr is) = rw is.2 (node_differs net (set_change is.0 is.1) node p (sym at))

-- so the own data of the links of that node alone may differ, and do where its times do
module _ {a b : Network} (valid_a : IsValid a) (valid_b : IsValid b) {place : ℕ} (differ : DifferAt place a b)
    {told : Bool} (is : IsTrue told ↔ HaveNode a b place) {l : ℕ} {places : PlacesValue} (read : IsRead a b l places)
  where
    data_is : HaveNode a b places.node ↔ HaveData a b l
    data_is =
        let numbers : SameNumbers (link_of a l) (link_of b l) =
        subst (SameNumbers (link_of a l)) (λ j. get_or (differ.links j) l no_link)
        record { entry = refl; saturation = refl; flows = refl; cruises = refl } in
        let times = times_here a b l valid_a valid_b read.inside_before read.inside read.places_before read.places_after in
        (λ have. record { numbers = numbers; times = times.0 have }, λ have. times.1 have.times)

    pub flag_down : (not told && nat_eq places.node place) ≡ false ↔ HaveData a b l
    flag_down = by (cases_eq places.node place)
      where
        by : (places.node ≡ place) ⊎ (places.node ≡ place → ⊥)
            → ((not told && nat_eq places.node place) ≡ false ↔ HaveData a b l)
        by (inl here) =
            let have_node : HaveNode a b place ↔ HaveData a b l = subst (λ n. HaveNode a b n ↔ HaveData a b l) here data_is in (
              λ down. have_node.0 (is.0 (grind (arith, nat_tests))),
              λ have. let stays : told ≡ true = is.1 (have_node.1 have) in grind (arith, nat_tests),
            )
        by (inr other) = (
          λ down. data_is.0 (differ.nodes places.node other),
          λ have. let apart : places.node ≢ place = other in grind (arith, nat_tests),
        )
