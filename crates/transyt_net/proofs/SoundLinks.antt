-- A draft stays sound with a new link, feed and give-way rule.
use Rattle.std.proofs.Common.{◌<◌, [], ◌≡◌, ℕ, ◌≤◌, true, false, ◌∷◌, ◌++◌, length, None, refl}
use Rattle.std.proofs.Common.{sym, ap, subst, ◌∙◌, arith, nat_eq, length-append, All, IfSome}
use Rattle.std.proofs.lemmas.List.{map-append}
use Rattle.std.proofs.lemmas.List.Elements.{All-push, All-weaker, All-nil}
use Rattle.transyt_parts.specs.declared.link.Feed.{Feed}
use Rattle.transyt_parts.specs.declared.link.GiveWay.{GiveWay}
use Rattle.transyt_net.specs.Parts.{Network, LinkValue}
use Rattle.transyt_net.specs.Valid.{is_among, node_numbers, link_numbers, stages_at, IsSound, IsLink, IsFeed, IsRule}
use Rattle.transyt_net.specs.Valid.{all_differ, link_number, is_fed, feeders, link_in_range, AreWeights}
use Rattle.transyt_net.specs.Faults.{link_fault, with_link}
use Rattle.transyt_net.specs.Faults.{feed_fault, with_feed, rule_fault, with_rule}
use Rattle.transyt_parts.specs.Made.{add_feed, set_rule}
use Rattle.std.proofs.lemmas.Bool.Decides.{nat_tests}
use Rattle.transyt_net.proofs.PlaceLaws.{among_more, all_differ_push}
use Rattle.transyt_net.proofs.PlaceLaws.{list_any_map}
use Rattle.transyt_net.proofs.WriteLaws.{all_in_range}
use Rattle.transyt_net.proofs.WriteLaws.{link_with_more_numbers, links_written}

-- the ranges of its numbers
range_facts : (steps : ℕ) (l : LinkValue) → link_in_range steps l ≡ true
    → ((1 ≤ l.number) × (l.number ≤ 99999)) × (l.entry ≤ 9999) × ((100 ≤ l.saturation) × (l.saturation ≤ 9999))
    × AreWeights l.weights × (l.start_lag < steps) × (l.end_lag < steps)
range_facts steps l h = grind (arith, nat_tests)

-- a draft with a new link is sound
pub sound_link : (net : Network) (l : LinkValue) → IsSound net → (1 ≤ length l.stages) × (length l.stages ≤ 8)
    → l.feeds ≡ [] → l.gives_way ≡ None → link_fault net l ≡ None → IsSound (with_link net l)
sound_link net l h count no_feeds no_rule none =
    let steps = net.frame.step_count in
    let numbers = link_numbers net.links in
    let after = link_numbers (net.links ++ l ∷ []) in
    let longer = length-append net.links (l ∷ []) in
    let keys : after ≡ numbers ++ l.number ∷ [] = map-append link_number net.links (l ∷ []) in
    let apart = all_differ_push numbers l.number in
    let differ : all_differ after ≡ true = grind (arith, nat_tests) in
    let many : length (net.links ++ l ∷ []) ≤ 1000 = grind (arith, nat_tests) in
    let stages_differ : all_differ l.stages ≡ true = grind (arith, nat_tests) in
    let known : is_among (node_numbers net.nodes) l.node ≡ true = grind (arith, nat_tests) in
    let staged = all_in_range 1 (stages_at net.nodes l.node) l.stages (grind (arith, nat_tests)) in
    let fed : All (IsFeed after) l.feeds = subst (All (IsFeed after)) (sym no_feeds) (All-nil (IsFeed after)) in
    let fed_differ : all_differ (feeders l.feeds) ≡ true = rw no_feeds refl in
    let fed_few : length l.feeds ≤ 8 = rw no_feeds (omega arith) in
    let rule : IfSome l.gives_way (IsRule after) = rw no_rule tt in
    let range = range_facts steps l (grind (arith, nat_tests)) in
    let new : IsLink steps net.nodes after l = grind arith in
    let links : All (IsLink steps net.nodes after) (net.links ++ l ∷ []) =
    All-push (IsLink steps net.nodes after) net.links l
    (All-weaker _ (IsLink steps net.nodes after)
    (λ x. link_with_more_numbers steps net.nodes numbers after
    (λ k a. ap (λ ks. is_among ks k) keys ∙ among_more numbers (l.number ∷ []) k a) x) net.links h.links) new in
    grind (arith, nat_tests)

-- a draft with a new feed is sound
pub sound_feed : (net : Network) (link : ℕ) (f : Feed) → IsSound net → feed_fault net link f ≡ None
    → IsSound (with_feed net link f)
sound_feed net link f h none =
    let numbers = link_numbers net.links in
    let good : IsFeed numbers f = grind (arith, nat_tests) in
    links_written net (add_feed f) (λ l. refl) link h (λ l at old.
    let few : length l.feeds < 8 = grind (arith, nat_tests) in
    let longer = length-append l.feeds (f ∷ []) in
    let one_more : length (l.feeds ++ f ∷ []) ≤ 8 = omega arith in
    let absent : is_fed l.feeds f.feeder ≡ false = grind (arith, nat_tests) in
    let keys = map-append (λ x. x.feeder) l.feeds (f ∷ []) in
    let same = list_any_map (λ x. x.feeder) (nat_eq f.feeder) l.feeds in
    let apart = all_differ_push (feeders l.feeds) f.feeder in
    let differ : all_differ (feeders (l.feeds ++ f ∷ [])) ≡ true = grind (arith, nat_tests) in
    let fed : All (IsFeed numbers) (l.feeds ++ f ∷ []) = All-push (IsFeed numbers) l.feeds f old.feeds good in
    grind (arith, nat_tests))

-- a draft with a new give-way rule is sound
pub sound_rule : (net : Network) (link : ℕ) (r : GiveWay) → IsSound net → rule_fault net link r ≡ None
    → IsSound (with_rule net link r)
sound_rule net link r h none = links_written net (set_rule r) (λ l. refl) link h (λ l at old. grind (arith, nat_tests))
