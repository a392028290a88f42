-- The numbers of a valid network are small enough for a card.
use Rattle.std.proofs.Common.{◌≡◌, ℕ, ◌<◌, ◌≤◌, nat_le, List, map, length, Bool, true, Option, None, refl, sym}
use Rattle.std.proofs.Common.{Some, ◌∙◌, ap, arith, All}
use Rattle.std.specs.List.{list_all}
use Rattle.std.proofs.lemmas.List.Elements.{All-weaker}
use Rattle.std.proofs.lemmas.List.Sums.{list_all-from_AllPass}
use Rattle.std.proofs.lemmas.Bool.{and_from, le-leb}
use Rattle.std.proofs.lemmas.Bool.Decides.{nat_tests}
use Rattle.transyt_parts.specs.Parts.{LinkValue, NodeValue}
use Rattle.transyt_net.specs.Parts.{Network}
use Rattle.transyt_net.proofs.EditLaws.{all_numbered}
use Rattle.transyt_net.proofs.FoundLaws.{numbered_key, some_numbered}
use Rattle.transyt_net.specs.Valid.{IsLink, is_among, link_numbers, numbered, stage_total, stages_at}
use Rattle.transyt_parts.specs.Valid.{IsNode, node_number, within}
use Rattle.transyt_deck.proofs.NumberTexts.{is_small}

-- the links of the network, as its validity sees them
abbrev pub AreLinks : Network → List LinkValue → Type 0
AreLinks net ls = All (IsLink net.frame.step_count net.nodes (link_numbers net.links)) ls

-- a link of the network, as its validity sees it
abbrev pub IsOne : Network → LinkValue → Type 0
IsOne net l = IsLink net.frame.step_count net.nodes (link_numbers net.links) l

-- facts as tests
pub within_true : (low high n : ℕ) → low ≤ n → n ≤ high → within low high n ≡ true
within_true low high n a b = and_from (nat_le low n) (nat_le n high) (le-leb low n a) (le-leb n high b)

-- a number up to a small one is small
pub small_le : (k n : ℕ) → n ≤ k → k < 1000000000 → is_small n ≡ true
small_le k n h low = grind (arith, nat_tests)

-- numbers of which each passes a test
pub each_passes : (Is : ℕ → Type 0) (test : ℕ → Bool) → ((n : ℕ) → Is n → test n ≡ true) → (ns : List ℕ) → All Is ns
    → list_all test ns ≡ true
each_passes Is test passes ns h = list_all-from_AllPass test ns (All-weaker Is (λ n. test n ≡ true) passes ns h)

-- the number of a node or a link is small
pub small_named : {A : Type 0} (Is : A → Type 0) (key : A → ℕ) → ((y : A) → Is y → key y ≤ 99999) → (x : ℕ) (ys : List A)
    → All Is ys → is_among (map key ys) x ≡ true → is_small x ≡ true
small_named Is key low x ys h e =
    let found = some_numbered key ys x e in
    let y = found.0 in
    ap is_small (sym (numbered_key key ys x y found.1)) ∙ small_le 99999 (key y) (low y (all_numbered Is key ys x y h found.1)) (omega arith)

few_in : (found : Option NodeValue) → ((node : NodeValue) → found ≡ Some node → length node.stages ≤ 8)
    → stage_total found ≤ 8
few_in None few = omega arith
few_in (Some node) few = few node refl

-- no node has more than eight stages
pub few_stages : (n x : ℕ) (nodes : List NodeValue) → All (IsNode n) nodes → stages_at nodes x ≤ 8
few_stages n x nodes h =
    few_in (numbered node_number nodes x) (λ node is. (all_numbered (IsNode n) node_number nodes x node h is).stage_count)
