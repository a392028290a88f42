-- A call of a draft has no fault exactly where the draft after it is sound.
use Rattle.std.proofs.Common.{◌≡◌, ◌↔◌, ℕ, ◌<◌, ◌≤◌, true, List, []}
use Rattle.std.proofs.Common.{◌∷◌, ◌++◌, length, All, None, Some, refl, subst, arith}
use Rattle.std.proofs.Common.{IsTrue, ◌-◌, slice_get, get_or, set, length-append}
use Rattle.std.specs.List.{list_all}
use Rattle.std.proofs.Math.Seq.{lt-length-set}
use Rattle.std.proofs.lemmas.Bool.Decides.{nat_tests}
use Rattle.std.proofs.lemmas.List.{map-append, get_or_push, length_push}
use Rattle.std.proofs.lemmas.List.Sums.{list_all-from_AllPass}
use Rattle.std.proofs.lemmas.Option.{slice_get-get_or}
use Rattle.std.proofs.lemmas.List.Elements.{All-nil}
use Rattle.std.proofs.lemmas.Grind.{get_or-set_at}
use Rattle.transyt_parts.specs.declared.node.Stage.{Stage}
use Rattle.transyt_parts.specs.declared.link.Feed.{Feed}
use Rattle.transyt_parts.specs.declared.link.GiveWay.{GiveWay}
use Rattle.transyt_parts.specs.declared.frame.Frame.{Frame}
use Rattle.transyt_net.specs.Parts.{Network, no_node, NodeValue, LinkValue, PlanValue}
use Rattle.transyt_parts.specs.Ranges.{is_in, IsWithin, budget_range, most_sizes}
use Rattle.transyt_net.specs.Valid.{on_numbered, on_place, node_numbers, link_numbers, stages_at, rule_at, IsSound}
use Rattle.transyt_net.specs.Valid.{IsLink, IsFeed, IsRule, within, feeders, link_number, node_number, IsNode, IsStage}
use Rattle.transyt_net.specs.Valid.{is_frame, IsFrame, IsPlan}
use Rattle.transyt_parts.specs.Made.{new_node, add_stage, add_feed, set_rule}
use Rattle.transyt_net.specs.Faults.{node_fault, with_node, last_place, stage_fault, with_stage, link_fault, with_link}
use Rattle.transyt_net.specs.Faults.{feed_fault, with_feed, rule_fault, with_rule, climb_fault, with_plan, empty}
use Rattle.transyt_net.specs.There.{HasLink}
use Rattle.transyt_net.proofs.PlaceLaws.{all_differ_push, on_place_here, keys_kept}
use Rattle.transyt_net.proofs.FoundLaws.{written_is, fed_is}
use Rattle.transyt_net.proofs.WriteLaws.{all_in_range}
use Rattle.transyt_parts.proofs.KeptLaws.{plan_kept}
use Rattle.transyt_net.proofs.SoundNodes.{sound_node, sound_stage}
use Rattle.transyt_net.proofs.SoundLinks.{sound_link, sound_feed, sound_rule}

-- a fact of each element holds for the last
all_last : {A : Type 0} (P : A → Type 0) (xs : List A) (y : A) → All P (xs ++ y ∷ []) → P y
all_last P xs y all = subst P (get_or_push xs y y (length xs) refl) (all (length xs) y (omega (arith, length_push xs y)))

-- numbers in a range pass its test
all_within_true : (low high : ℕ) (xs : List ℕ) → All (λ k. (low ≤ k) × (k ≤ high)) xs
    → list_all (within low high) xs ≡ true
all_within_true low high xs all = list_all-from_AllPass (within low high) xs (λ i d inside. let one = all i d inside in grind (arith, nat_tests))

node_free : (net : Network) (number offset : ℕ) → IsSound (with_node net number offset)
    → node_fault net number offset ≡ None
node_free net number offset s =
    let new = new_node number offset in
    let keys : node_numbers (net.nodes ++ new ∷ []) ≡ node_numbers net.nodes ++ number ∷ [] =
    map-append node_number net.nodes (new ∷ []) in
    let good = all_last (IsNode net.frame.step_count) net.nodes new s.nodes in
    let longer = length-append net.nodes (new ∷ []) in
    grind (arith, nat_tests, all_differ_push (node_numbers net.nodes) number)

-- a new node
pub node_exactly : (net : Network) (number offset : ℕ) → IsSound net
    → node_fault net number offset ≡ None ↔ IsSound (with_node net number offset)
node_exactly net number offset h = (sound_node net number offset h, node_free net number offset)

stage_free : (net : Network) (s : Stage) → 0 < length net.nodes → IsSound (with_stage net s) → stage_fault net s ≡ None
stage_free net s some h =
    let steps = net.frame.step_count in
    let p = last_place net.nodes in
    let inside : p < length net.nodes = omega arith in
    let n : NodeValue = get_or net.nodes p no_node in
    let after = on_place (add_stage s) net.nodes p in
    let put : after ≡ set net.nodes p (add_stage s n) = on_place_here (add_stage s) net.nodes p no_node inside in
    let nodes : All (IsNode steps) (set net.nodes p (add_stage s n)) = subst (All (IsNode steps)) put h.nodes in
    let at : get_or (set net.nodes p (add_stage s n)) p no_node ≡ add_stage s n =
    get_or-set_at net.nodes p p (add_stage s n) no_node refl inside in
    let there : slice_get net.nodes p ≡ Some n = slice_get-get_or net.nodes p no_node inside in
    let good : IsNode steps (add_stage s n) = subst (IsNode steps) at (nodes p no_node (lt-length-set net.nodes p (add_stage s n) inside)) in
    let stage = all_last (IsStage steps) n.stages s good.stages in
    let longer = length-append n.stages (s ∷ []) in
    grind (arith, nat_tests)

-- a new stage of the last node
pub stage_exactly : (net : Network) (s : Stage) → IsSound net → 0 < length net.nodes
    → stage_fault net s ≡ None ↔ IsSound (with_stage net s)
stage_exactly net s h some = (sound_stage net s h, stage_free net s some)

link_free : (net : Network) (l : LinkValue) → IsSound (with_link net l) → link_fault net l ≡ None
link_free net l s =
    let numbers = link_numbers net.links in
    let after = link_numbers (net.links ++ l ∷ []) in
    let keys : after ≡ numbers ++ l.number ∷ [] = map-append link_number net.links (l ∷ []) in
    let good = all_last (IsLink net.frame.step_count net.nodes after) net.links l s.links in
    let staged = all_within_true 1 (stages_at net.nodes l.node) l.stages good.stages in
    let longer = length-append net.links (l ∷ []) in
    grind (arith, nat_tests, all_differ_push numbers l.number)

-- a new link
pub link_exactly : (net : Network) (l : LinkValue) → IsSound net → (1 ≤ length l.stages) × (length l.stages ≤ 8)
    → l.feeds ≡ [] → l.gives_way ≡ None → link_fault net l ≡ None ↔ IsSound (with_link net l)
link_exactly net l h count no_feeds no_rule = (sound_link net l h count no_feeds no_rule, link_free net l)

feed_free : (net : Network) (link : ℕ) (f : Feed) → HasLink net link → IsSound (with_feed net link f)
    → feed_fault net link f ≡ None
feed_free net link f there s =
    let numbers = link_numbers net.links in
    let links = on_numbered link_number (add_feed f) net.links link in
    let keys : link_numbers links ≡ numbers = keys_kept link_number (add_feed f) (λ m. refl) net.links link in
    let is = written_is (IsLink net.frame.step_count net.nodes (link_numbers links)) link_number (add_feed f) (λ m. refl)
    net.links link there s.links in
    let feeds = is.0.feeds in
    let names = map-append (λ x. x.feeder) feeds (f ∷ []) in
    let feed = all_last (IsFeed (link_numbers links)) feeds f is.2.feeds in
    let longer = length-append feeds (f ∷ []) in
    grind (arith, nat_tests, all_differ_push (feeders feeds) f.feeder, fed_is feeds f.feeder)

-- a new feed
pub feed_exactly : (net : Network) (link : ℕ) (f : Feed) → IsSound net
    → feed_fault net link f ≡ None ↔ HasLink net link × IsSound (with_feed net link f)
feed_exactly net link f h = (
  (λ none. (grind (arith, nat_tests), sound_feed net link f h none)),
  (λ both. feed_free net link f both.0 both.1),
)

rule_free : (net : Network) (link : ℕ) (r : GiveWay) → HasLink net link → rule_at net.links link ≡ None
    → IsSound (with_rule net link r) → rule_fault net link r ≡ None
rule_free net link r there none s =
    let links = on_numbered link_number (set_rule r) net.links link in
    let is = written_is (IsLink net.frame.step_count net.nodes (link_numbers links)) link_number (set_rule r) (λ m. refl)
    net.links link there s.links in
    let keys = keys_kept link_number (set_rule r) (λ m. refl) net.links link in
    let rule : IsRule (link_numbers links) r = is.2.rule in
    grind (arith, nat_tests)

-- a new give-way rule
pub rule_exactly : (net : Network) (link : ℕ) (r : GiveWay) → IsSound net
    → rule_fault net link r ≡ None
    ↔ HasLink net link × (rule_at net.links link ≡ None) × IsSound (with_rule net link r)
rule_exactly net link r h = (
  (λ none. (grind (arith, nat_tests), grind (arith, nat_tests), sound_rule net link r h none)),
  (λ all. rule_free net link r all.0 all.1 all.2),
)

-- an empty draft
pub frame_exactly : (f : Frame) → IsTrue (is_frame f) ↔ IsSound (empty f)
frame_exactly f = (
  (λ h.
      let frame : IsFrame f = grind (arith, nat_tests) in
      let nodes = All-nil (IsNode f.step_count) in
      let links = All-nil (IsLink f.step_count [] []) in
      grind (arith, nat_tests)),
  (λ s. let frame : IsFrame f = s.frame in grind (arith, nat_tests)),
)

-- a climb plan
pub plan_exactly : (net : Network) (p : PlanValue) → IsSound net → IsWithin 1 most_sizes (length p.sizes)
    → climb_fault net p ≡ None ↔ IsSound (with_plan net p)
plan_exactly net p h count =
    let steps = net.frame.step_count in
    let top = steps - 1 in (
      (λ none.
          let sizes = all_in_range 1 top p.sizes (grind (arith, nat_tests)) in
          let budget : IsTrue (is_in budget_range p.budget) = grind (arith, nat_tests) in
          let plan : IsPlan steps p = (plan_kept steps p).1 (budget, count, sizes) in
          grind (arith, nat_tests)),
      (λ s.
          let is = (plan_kept steps p).0 s.plan in
          grind (arith, nat_tests, all_within_true 1 top p.sizes is.2)),
    )
