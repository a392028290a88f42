-- An edit is allowed exactly where what it names is there and the network with it is valid.
use Rattle.std.proofs.Common.{◌≡◌, ℕ, ◌-◌, ◌<◌, true, length, All, None, refl, sym, ap, subst, ◌∙◌, ◌↔◌}
use Rattle.std.proofs.Common.{arith, IsTrue}
use Rattle.std.proofs.lemmas.Bool.Decides.{nat_tests}
use Rattle.transyt_parts.specs.declared.link.Feed.{Feed}
use Rattle.transyt_net.specs.Edits.{Edit, Offset, Change, Entry, Part, Cruise, Saturation, Weight, with_edit}
use Rattle.transyt_net.specs.Edits.{set_offset, set_change, change_to, set_entry, set_saturation, set_weights}
use Rattle.transyt_net.specs.Edits.{feeder_of, node_in, link_in, the_link}
use Rattle.transyt_net.specs.Parts.{Network, NodeValue, LinkValue}
use Rattle.transyt_parts.specs.Valid.{is_fed, node_number, link_number, IsNode}
use Rattle.transyt_net.specs.Valid.{on_numbered, link_numbers, IsLink, IsFeed, IsValid}
use Rattle.transyt_parts.specs.Plan.{plan_fault, no_stage}
use Rattle.transyt_net.specs.EditFaults.{edit_fault, order_fault, changed, is_link}
use Rattle.transyt_net.specs.There.{HasLink, IsThere}
use Rattle.transyt_net.proofs.PlaceLaws.{keys_kept, length_kept_at}
use Rattle.transyt_net.proofs.EditLaws.{all_numbered}
use Rattle.transyt_net.proofs.ApplyLaws.{valid_edit}
use Rattle.transyt_net.proofs.FoundLaws.{some_numbered, numbered_after, numbered_key, written_is, changed_at, fed_is}

-- the part of an allowed edit is there
pub there : (net : Network) (e : Edit) → edit_fault net e ≡ None → IsThere net e
there net (Offset node offset) none = (grind (arith, nat_tests), tt)
there net (Change node stage change) none = (grind (arith, nat_tests), (grind (arith, nat_tests), grind (arith, nat_tests)))
there net (Entry link flow) none = (grind (arith, nat_tests), tt)
there net (Part link feeder flow) none = (grind (arith, nat_tests), grind (arith, nat_tests))
there net (Cruise link feeder seconds) none = (grind (arith, nat_tests), grind (arith, nat_tests))
there net (Saturation link flow) none = (grind (arith, nat_tests), tt)
there net (Weight link weights) none = (grind (arith, nat_tests), tt)

-- the link of a number, after a write to it that leaves the network valid
link_good : (net : Network) (link : ℕ) (f : LinkValue → LinkValue) (same : (l : LinkValue) → (f l).number ≡ l.number)
    → HasLink net link → IsValid (record net { links = on_numbered link_number f net.links link })
    → (l : LinkValue) × IsLink net.frame.step_count net.nodes (link_numbers (on_numbered link_number f net.links link)) (f l)
link_good net link f same there valid =
    let links = on_numbered link_number f net.links link in
    let is = written_is (IsLink net.frame.step_count net.nodes (link_numbers links)) link_number f same net.links link there
    valid.sound.links in
    (is.0, is.2)

-- the feed of a feeder, after a write to it that leaves the network valid
feed_good : (net : Network) (link feeder : ℕ) (g : Feed → Feed) (same : (x : Feed) → (g x).feeder ≡ x.feeder)
    → HasLink net link → IsTrue (is_fed (the_link net link).feeds feeder)
    → IsValid (record net {
      links = on_numbered link_number (λ l. record l { feeds = on_numbered feeder_of g l.feeds feeder }) net.links link;
    })
    → (f : Feed) × IsFeed (link_numbers net.links) (g f) × (is_link net feeder ≡ true)
feed_good net link feeder g same there fed valid =
    let write : LinkValue → LinkValue = λ l. record l { feeds = on_numbered feeder_of g l.feeds feeder } in
    let links = on_numbered link_number write net.links link in
    let is = written_is (IsLink net.frame.step_count net.nodes (link_numbers links)) link_number write (λ l. refl) net.links
    link there valid.sound.links in
    let feeds = is.0.feeds in
    let has = sym (fed_is feeds feeder) ∙ ap (λ o. is_fed (link_in o).feeds feeder) (sym is.1) ∙ fed in
    let f = some_numbered feeder_of feeds feeder has in
    let after = numbered_after feeder_of g same feeds feeder f.0 f.1 in
    let all : All (IsFeed (link_numbers net.links)) (on_numbered feeder_of g feeds feeder) =
    subst (λ ks. All (IsFeed ks) (on_numbered feeder_of g feeds feeder))
    (keys_kept link_number write (λ l. refl) net.links link) is.2.feeds in
    let good = all_numbered (IsFeed (link_numbers net.links)) feeder_of (on_numbered feeder_of g feeds feeder) feeder (g f.0)
    all after in (
      f.0,
      good,
      subst (λ k. is_link net k ≡ true)
          (numbered_key feeder_of (on_numbered feeder_of g feeds feeder) feeder (g f.0) after) good.feeder,
    )

-- where what it names is there, an edit that leaves the network valid is allowed
pub allowed : (net : Network) (e : Edit) → IsThere net e → IsValid (with_edit net e) → edit_fault net e ≡ None
allowed net (Offset node offset) there valid =
    let is = written_is (IsNode net.frame.step_count) node_number (set_offset offset) (λ n. refl) net.nodes node there.0
    valid.sound.nodes in
    grind (arith, nat_tests, is.2.offset)
allowed net (Change node stage change) there valid =
    let steps = net.frame.step_count in
    let write : NodeValue → NodeValue = set_change stage change in
    let is = written_is (IsNode steps) node_number write (λ n. refl) net.nodes node there.0 valid.sound.nodes in
    let planned = all_numbered (λ m. plan_fault steps m.stages ≡ None) node_number
    (on_numbered node_number write net.nodes node) node (write is.0) valid.planned
    (numbered_after node_number write (λ n. refl) net.nodes node is.0 is.1) in
    let stages = is.0.stages in
    let count = ap (λ o. length (node_in o).stages) is.1 in
    let inside : stage - 1 < length stages = omega (arith, there.1.0, there.1.1, count) in
    let still = length_kept_at (change_to change) stages (stage - 1) in
    let set = is.2.stages (stage - 1) no_stage (omega (arith, still)) in
    let below : change < steps = omega (arith, set.change, changed_at stages (stage - 1) change no_stage inside) in
    let order : order_fault steps (write is.0).stages ≡ None = grind (arith, nat_tests) in
    let same : changed net node stage change ≡ (write is.0).stages = ap (λ o. (write (node_in o)).stages) is.1 in
    grind (arith, nat_tests)
allowed net (Entry link flow) there valid =
    let good = (link_good net link (set_entry flow) (λ l. refl) there.0 valid).1 in grind (arith, nat_tests)
allowed net (Part link feeder flow) there valid =
    let is = feed_good net link feeder (λ f. record f { flow = flow }) (λ f. refl) there.0 there.1 valid in
    grind (arith, nat_tests, is.1, is.2)
allowed net (Cruise link feeder seconds) there valid =
    let is = feed_good net link feeder (λ f. record f { cruise = seconds }) (λ f. refl) there.0 there.1 valid in
    grind (arith, nat_tests, is.1, is.2)
allowed net (Saturation link flow) there valid =
    let good = (link_good net link (set_saturation flow) (λ l. refl) there.0 valid).1 in grind (arith, nat_tests)
allowed net (Weight link weights) there valid =
    let good = (link_good net link (set_weights weights) (λ l. refl) there.0 valid).1 in grind (arith, nat_tests)

-- an edit is allowed exactly there
pub allowed_exactly : (net : Network) (e : Edit) → IsValid net
    → edit_fault net e ≡ None ↔ IsThere net e × IsValid (with_edit net e)
allowed_exactly net e h = ((λ none. (there net e none, valid_edit net e h none)), (λ both. allowed net e both.0 both.1))
