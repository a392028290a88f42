-- An allowed edit keeps a valid network valid.
use Rattle.std.proofs.Common.{◌≡◌, ℕ, ◌-◌, true, List, None, refl, sym, ap}
use Rattle.std.proofs.Common.{◌<◌, All, map, ◌∙◌, arith}
use Rattle.std.proofs.lemmas.Bool.Decides.{nat_tests}
use Rattle.transyt_parts.specs.declared.link.Feed.{Feed}
use Rattle.transyt_net.specs.Edits.{Edit, Offset, Change, Entry, Part, Cruise, Saturation, Weight, with_edit}
use Rattle.transyt_net.specs.Edits.{set_offset, set_change, change_to, set_entry, set_saturation, set_weights, set_part}
use Rattle.transyt_net.specs.Edits.{set_cruise, feeder_of, node_in}
use Rattle.transyt_net.specs.Parts.{Network, NodeValue, LinkValue}
use Rattle.transyt_net.specs.Valid.{on_numbered, link_numbers, IsLink, IsFeed, IsValid, node_number, link_number}
use Rattle.transyt_net.specs.Valid.{all_differ, IsStage}
use Rattle.transyt_parts.specs.Plan.{plan_fault}
use Rattle.transyt_net.specs.EditFaults.{edit_fault, order_fault, changed}
use Rattle.transyt_net.proofs.PlaceLaws.{keys_kept, length_kept, length_kept_at, all_on_numbered, all_on_place}
use Rattle.transyt_net.proofs.ShapeLaws.{change_bare}
use Rattle.transyt_net.proofs.WriteLaws.{KeepsLink, links_written, nodes_written}

-- a write to a link keeps a network valid
link_valid : (net : Network) (f : LinkValue → LinkValue) (same : (l : LinkValue) → (f l).number ≡ l.number)
    (link : ℕ)
    → IsValid net
    → KeepsLink net link f
    → IsValid (record net { links = on_numbered link_number f net.links link })
link_valid net f same link h keeps =
    record { sound = links_written net f same link h.sound keeps; planned = h.planned }

-- the feeds of a link, one of them written
feeds_written : (numbers : List ℕ) (f : Feed → Feed) (same : (x : Feed) → (f x).feeder ≡ x.feeder) (steps : ℕ)
    (nodes : List NodeValue) (feeder : ℕ) (l : LinkValue)
    → IsLink steps nodes numbers l
    → ((x : Feed) → IsFeed numbers x → IsFeed numbers (f x))
    → IsLink steps nodes numbers (record l { feeds = on_numbered feeder_of f l.feeds feeder })
feeds_written numbers f same steps nodes feeder l old good =
    let len = length_kept feeder_of f l.feeds feeder in
    let differ : all_differ (map feeder_of (on_numbered feeder_of f l.feeds feeder)) ≡ true =
    ap all_differ (keys_kept feeder_of f same l.feeds feeder) ∙ old.feeders_differ in
    let fed_still : All (IsFeed numbers) (on_numbered feeder_of f l.feeds feeder) =
    all_on_numbered (IsFeed numbers) feeder_of f l.feeds feeder (λ x at is. good x is) old.feeds in
    grind (arith, nat_tests)

-- an allowed edit keeps a network valid
pub valid_edit : (net : Network) (e : Edit) → IsValid net → edit_fault net e ≡ None → IsValid (with_edit net e)
valid_edit net (Offset node offset) h none = record {
  sound = nodes_written net (set_offset offset) (λ n. refl) node h.sound (λ n at old. grind (arith, nat_tests));
  planned =
      all_on_numbered (λ n. plan_fault net.frame.step_count n.stages ≡ None) node_number (set_offset offset)
      net.nodes node (λ n at p. p) h.planned;
}
valid_edit net (Change node stage change) h none =
    let steps = net.frame.step_count in
    let below : change < steps = grind (arith, nat_tests) in
    let fits : order_fault steps (changed net node stage change) ≡ None = grind (arith, nat_tests) in
    let kept = λ (n : NodeValue). length_kept_at (change_to change) n.stages (stage - 1) in
    record {
      sound = nodes_written net (set_change stage change) (change_bare stage change) node h.sound (λ n at old.
          let stages = all_on_place (IsStage steps) (change_to change) n.stages (stage - 1)
          (λ s here is. record { change = below; intergreen = is.intergreen; least = is.least }) old.stages in
          grind (arith, nat_tests, kept n));
      planned =
          all_on_numbered (λ n. plan_fault steps n.stages ≡ None) node_number (set_change stage change) net.nodes node
          (λ n at p.
          let order = ap (λ o. order_fault steps (set_change stage change (node_in o)).stages) (sym at) ∙ fits in
          grind (arith, nat_tests, kept n))
          h.planned;
    }
valid_edit net (Entry link flow) h none =
    link_valid net (set_entry flow) (λ l. refl) link h (λ l at old. grind (arith, nat_tests))
valid_edit net (Part link feeder flow) h none =
    link_valid net (set_part feeder flow) (λ l. refl) link h (λ l at old.
    feeds_written (link_numbers net.links) (λ f. record f { flow = flow }) (λ f. refl) net.frame.step_count net.nodes feeder l old
    (λ x is. grind (arith, nat_tests)))
valid_edit net (Cruise link feeder seconds) h none =
    link_valid net (set_cruise feeder seconds) (λ l. refl) link h (λ l at old.
    feeds_written (link_numbers net.links) (λ f. record f { cruise = seconds }) (λ f. refl) net.frame.step_count net.nodes feeder l old
    (λ x is. grind (arith, nat_tests)))
valid_edit net (Saturation link flow) h none =
    link_valid net (set_saturation flow) (λ l. refl) link h (λ l at old. grind (arith, nat_tests))
valid_edit net (Weight link weights) h none =
    link_valid net (set_weights weights) (λ l. refl) link h (λ l at old. grind (arith, nat_tests))
