-- Writes to nodes and links, and more of them, that keep a network sound.
use Rattle.std.proofs.Common.{[], ◌≡◌, ℕ, suc, zero, ◌≤◌, Bool, true, false, List, ◌∷◌, ◌++◌, Option}
use Rattle.std.proofs.Common.{Some, None, refl, ap, ◌∙◌, arith, length-append, All, IfSome}
use Rattle.std.proofs.Common.{if◌then◌else◌}
use Rattle.std.specs.List.{list_all}
use Rattle.std.proofs.lemmas.Bool.Decides.{nat_tests}
use Rattle.std.proofs.lemmas.List.Elements.{All-weaker}
use Rattle.std.proofs.lemmas.List.Sums.{AllPass-from_list_all}
use Rattle.transyt_parts.specs.declared.node.Stage.{Stage}
use Rattle.transyt_parts.specs.declared.link.GiveWay.{GiveWay}
use Rattle.transyt_net.specs.Parts.{Network, NodeValue, LinkValue}
use Rattle.transyt_net.specs.Valid.{is_among, numbered, on_numbered, on_place, node_numbers, link_numbers, stages_at}
use Rattle.transyt_net.specs.Valid.{IsSound, IsLink, IsFeed, IsRule}
use Rattle.transyt_parts.specs.Valid.{all_differ, within, node_number, link_number, IsNode}
use Rattle.transyt_parts.specs.Made.{add_stage, bare_node}
use Rattle.transyt_net.proofs.PlaceLaws.{keys_kept, map_kept, length_kept, all_on_numbered}
use Rattle.transyt_net.proofs.ShapeLaws.{same_numbers, same_stages_at}

-- a chain of tests that finds no fault has none that holds
pub no_fault : {F : Type 0} (b : Bool) (f : F) (rest : Option F) → (if b then Some f else rest) ≡ None
    → (b ≡ false) × (rest ≡ None)
no_fault true f rest h = absurd (cc)
no_fault false f rest h = (refl, h)

-- the test of a range, as a fact
pub in_range : (low high n : ℕ) → within low high n ≡ true → (low ≤ n) × (n ≤ high)
in_range low high n h = grind (arith, nat_tests)

-- the same of each of a list
pub all_in_range : (low high : ℕ) (xs : List ℕ) → list_all (within low high) xs ≡ true
    → All (λ k. (low ≤ k) × (k ≤ high)) xs
all_in_range low high xs h =
    All-weaker (λ k. within low high k ≡ true) (λ k. (low ≤ k) × (k ≤ high)) (in_range low high) xs
    (AllPass-from_list_all (within low high) xs h)

-- a new node leaves what a node's number finds
pub stages_more : (nodes : List NodeValue) (n : NodeValue) (k : ℕ) → stages_at nodes k ≤ stages_at (nodes ++ n ∷ []) k
stages_more [] n k = omega arith
stages_more (x ∷ xs) n k = grind (arith, nat_tests, stages_more xs n k)

-- and so does a new stage
pub stages_more_at : (nodes : List NodeValue) (s : Stage) (p k : ℕ)
    → stages_at nodes k ≤ stages_at (on_place (add_stage s) nodes p) k
stages_more_at [] s p k = omega arith
stages_more_at (x ∷ xs) s zero k = grind (arith, nat_tests, length-append x.stages (s ∷ []))
stages_more_at (x ∷ xs) s (suc p) k = grind (arith, nat_tests, stages_more_at xs s p k)

-- more nodes and stages hurt no link
pub link_with_more_nodes : (steps : ℕ) (nodes more : List NodeValue) (numbers : List ℕ)
    → ((k : ℕ) → is_among (node_numbers nodes) k ≡ true → is_among (node_numbers more) k ≡ true)
    → ((k : ℕ) → stages_at nodes k ≤ stages_at more k)
    → (l : LinkValue) → IsLink steps nodes numbers l → IsLink steps more numbers l
link_with_more_nodes steps nodes more numbers among stages l h =
    let node = among l.node h.node in
    let staged : All (λ k. (1 ≤ k) × (k ≤ stages_at more l.node)) l.stages = λ i d inside.
    let old = h.stages i d inside in let more_stages = stages l.node in (omega arith, omega arith) in
    grind (arith, nat_tests)

-- more link numbers hurt no link
pub link_with_more_numbers : (steps : ℕ) (nodes : List NodeValue) (numbers more : List ℕ)
    → ((k : ℕ) → is_among numbers k ≡ true → is_among more k ≡ true)
    → (l : LinkValue) → IsLink steps nodes numbers l → IsLink steps nodes more l
link_with_more_numbers steps nodes numbers more among l h =
    let feeds : All (IsFeed more) l.feeds = All-weaker (IsFeed numbers) (IsFeed more)
    (λ f good. grind (arith, nat_tests, among f.feeder)) l.feeds h.feeds in
    let given = rule l.gives_way h.rule in
    grind (arith, nat_tests)
  where
    rule : (o : Option GiveWay) → IfSome o (IsRule numbers) → IfSome o (IsRule more)
    rule None given = given
    rule (Some r) given = grind (arith, nat_tests, among r.other)

-- a link of a number that is written stays a link of the network
abbrev pub KeepsLink : Network → ℕ → (LinkValue → LinkValue) → Type 0
KeepsLink net link f =
    (l : LinkValue) → numbered link_number net.links link ≡ Some l
    → IsLink net.frame.step_count net.nodes (link_numbers net.links) l
    → IsLink net.frame.step_count net.nodes (link_numbers net.links) (f l)

-- a node of a number that is written stays a node of the network
abbrev pub KeepsNode : Network → ℕ → (NodeValue → NodeValue) → Type 0
KeepsNode net node f =
    (n : NodeValue) → numbered node_number net.nodes node ≡ Some n → IsNode net.frame.step_count n
    → IsNode net.frame.step_count (f n)

-- a network whose links were written, each keeping its number
pub links_written : (net : Network) (f : LinkValue → LinkValue) (same : (l : LinkValue) → (f l).number ≡ l.number)
    (link : ℕ)
    → IsSound net
    → KeepsLink net link f
    → IsSound (record net { links = on_numbered link_number f net.links link })
links_written net f same link h keeps =
    let steps = net.frame.step_count in
    let after = on_numbered link_number f net.links link in
    let numbers : link_numbers after ≡ link_numbers net.links = keys_kept link_number f same net.links link in
    let count = length_kept link_number f net.links link in
    let differ : all_differ (link_numbers after) ≡ true = ap all_differ numbers ∙ h.links_differ in
    let links : All (IsLink steps net.nodes (link_numbers after)) after = rw numbers
    (all_on_numbered (IsLink steps net.nodes (link_numbers net.links)) link_number f net.links link keeps h.links) in
    grind (arith, nat_tests)

-- a network whose nodes were written, each keeping its shape
pub nodes_written : (net : Network) (f : NodeValue → NodeValue) (same : (n : NodeValue) → bare_node (f n) ≡ bare_node n)
    (node : ℕ)
    → IsSound net
    → KeepsNode net node f
    → IsSound (record net { nodes = on_numbered node_number f net.nodes node })
nodes_written net f same node h keeps =
    let steps = net.frame.step_count in
    let after = on_numbered node_number f net.nodes node in
    let bare = map_kept node_number f bare_node same net.nodes node in
    let numbers : node_numbers after ≡ node_numbers net.nodes = same_numbers after net.nodes bare in
    let count = length_kept node_number f net.nodes node in
    let differ : all_differ (node_numbers after) ≡ true = ap all_differ numbers ∙ h.nodes_differ in
    let nodes : All (IsNode steps) after = all_on_numbered (IsNode steps) node_number f net.nodes node keeps h.nodes in
    let links : All (IsLink steps after (link_numbers net.links)) net.links =
    All-weaker _ (IsLink steps after (link_numbers net.links))
    (λ l. link_with_more_nodes steps net.nodes after (link_numbers net.links) (λ k a. ap (λ ks. is_among ks k) numbers ∙ a)
    (λ k. omega (arith, same_stages_at after net.nodes k bare)) l) net.links h.links in
    grind (arith, nat_tests)
