-- The LINK cards of a valid network make its links again, without feeds and rules.
use Rattle.std.proofs.Common.{◌≡◌, ℕ, suc, ◌<◌, ◌≤◌, nat_le, List, [], ◌∷◌, ◌++◌, map, length, true, false}
use Rattle.std.proofs.Common.{cond, not, ◌&&◌, Some, None, Ok, refl, sym, subst, ◌∙◌, ap, arith, append_assoc}
use Rattle.std.proofs.Common.{length-append, All}
use Rattle.std.specs.List.{list_all}
use Rattle.std.proofs.lemmas.List.{map-append, length-map}
use Rattle.std.proofs.lemmas.Simd.{map-map}
use Rattle.std.proofs.lemmas.Bool.{lt-leb, not_from_true, or_from}
use Rattle.std.proofs.lemmas.Bool.Decides.{nat_tests}
use Rattle.transyt_parts.specs.declared.link.Feed.{Feed}
use Rattle.transyt_parts.specs.Parts.{LinkValue, NodeValue}
use Rattle.transyt_parts.specs.Ranges.{IsWithin}
use Rattle.transyt_parts.specs.Valid.{IsNode, all_differ, link_number, node_number, within, link_in_range}
use Rattle.transyt_net.specs.declared.draft.DraftFault.TheVariants.{Range, TooMany, Twice, Unknown}
use Rattle.transyt_net.specs.Parts.{Network, network_of}
use Rattle.transyt_net.specs.Valid.{IsLink, is_among, link_numbers, node_numbers, stages_at}
use Rattle.transyt_deck.specs.declared.card.Card.{Card}
use Rattle.transyt_deck.specs.declared.state.Part.{Part}
use Rattle.transyt_deck.specs.declared.state.Part.TheVariants as p
use Rattle.transyt_deck.specs.declared.state.State.{State}
use Rattle.transyt_deck.specs.declared.state.State.TheVariants as s
use Rattle.transyt_deck.specs.Cards.{card_words, link_card}
use Rattle.transyt_deck.proofs.LinkNumbers.{key_among, key_apart}
use Rattle.transyt_deck.proofs.NodeBlocks.{is_added}
use Rattle.transyt_deck.proofs.NumberTexts.{is_small}
use Rattle.transyt_deck.proofs.Reading.{Reads, Upto, reads_map, reads_more, reads_none}
use Rattle.transyt_deck.proofs.Small.{AreLinks, IsOne, each_passes, few_stages, small_le, small_named, within_true}

-- a link without its feeds and its rule
abbrev pub bare : LinkValue → LinkValue
bare l = record l { feeds = []; gives_way = None }

-- a link without its rule
abbrev pub fed : LinkValue → LinkValue
fed l = record l { gives_way = None }

-- a link with these feeds and no rule
abbrev pub with_feeds : LinkValue → List Feed → LinkValue
with_feeds l fs = record l { feeds = fs; gives_way = None }

-- the state with all nodes of a network and these links
abbrev pub state : Network → Part → List LinkValue → State
state net part ls = s.Making 2 part (network_of net.frame net.nodes ls None)

-- cards that come to equal links
pub links_to : {s : State} {cards : List Card} {xs ys : List LinkValue} (net : Network) → xs ≡ ys
    → (q : Upto p.Feeds) × Reads s cards (state net q.0 xs) → (q : Upto p.Feeds) × Reads s cards (state net q.0 ys)
links_to {s} {cards} net same read =
    subst (λ (ls : List LinkValue). (q : Upto p.Feeds) × Reads s cards (state net q.0 ls)) same read

link_true : (steps : ℕ) (nodes : List NodeValue) (numbers : List ℕ) (l : LinkValue) → IsLink steps nodes numbers l
    → link_in_range steps l ≡ true
link_true steps nodes numbers l h = grind (arith, nat_tests)

link_count : (n : ℕ) → 1 ≤ n → n ≤ 8
    → (nat_le 9 (suc (suc (suc (suc (suc (suc (suc (suc n))))))))
    && nat_le (suc (suc (suc (suc (suc (suc (suc (suc n)))))))) 16) ≡ true
link_count n x y = grind (arith, nat_tests)

-- the numbers of a valid link's card are small
link_small : (net : Network) → net.frame.step_count ≤ 120 → All (IsNode net.frame.step_count) net.nodes
    → (l : LinkValue) → IsOne net l → list_all is_small (card_words (link_card l)).1 ≡ true
link_small net low nodes l is =
    let most : stages_at net.nodes l.node ≤ 8 = few_stages net.frame.step_count l.node net.nodes nodes in
    let node = small_named (IsNode net.frame.step_count) node_number (λ y h. h.number.1) l.node net.nodes nodes is.node in
    let stages = each_passes (IsWithin 1 (stages_at net.nodes l.node)) is_small
    (λ n h. small_le (stages_at net.nodes l.node) n h.1 (omega arith)) l.stages is.stages in
    grind (arith, nat_tests)

-- a link of the network after these
pub record IsMiddle (net : Network) (done more : List LinkValue) (l : LinkValue) : Type 0 where
  pub before : is_among (link_numbers done) l.number ≡ false
  pub there : is_among (link_numbers net.links) l.number ≡ true

-- each link of the network is one, where all link numbers differ
pub middle : (net : Network) (done more : List LinkValue) (l : LinkValue) → done ++ l ∷ more ≡ net.links
    → all_differ (link_numbers net.links) ≡ true → IsMiddle net done more l
middle net done more l whole once =
    let here : all_differ (link_numbers (done ++ l ∷ more)) ≡ true =
    ap (λ (ls : List LinkValue). all_differ (link_numbers ls)) whole ∙ once in
    record {
      before = key_apart link_number done more l here;
      there = ap (λ (ls : List LinkValue). is_among (link_numbers ls) l.number) (sym whole)
          ∙ key_among link_number done more l;
    }

link_read : (net : Network) (part : Upto p.Links) (done : List LinkValue) (l : LinkValue) → net.frame.step_count ≤ 120
    → All (IsNode net.frame.step_count) net.nodes → is_among (link_numbers done) l.number ≡ false → length done < 1000
    → IsOne net l → Reads (state net part.0 (map bare done)) (link_card l ∷ []) (state net p.Links (map bare (done ++ l ∷ [])))
link_read net part done l short nodes before low is =
    let new = or_from (is_among (link_numbers (map bare done)) l.number) (not (all_differ l.stages))
    (ap (λ ks. is_among ks l.number) (map-map link_number bare done) ∙ before) (not_from_true _ is.stages_differ) in
    let steps = stages_at net.nodes l.node in
    let stages = each_passes (IsWithin 1 steps) (within 1 steps) (λ n h. within_true 1 steps n h.0 h.1) l.stages is.stages in
    let known : (is_among (node_numbers net.nodes) l.node
    && list_all (within 1 (stages_at net.nodes l.node)) l.stages) ≡ true = λ j. is.node j && stages j in
    let range = link_true net.frame.step_count net.nodes (link_numbers net.links) l is in
    let room : nat_le 1000 (length (map bare done)) ≡ false = ap (nat_le 1000) (length-map done bare)
    ∙ lt-leb 1000 (length done) low in
    let some : 1 ≤ length l.stages = is.stage_count.0 in
    let most : length l.stages ≤ 8 = is.stage_count.1 in
    reads_more {s = state net part.0 (map bare done)} {card = link_card l} record {
      small = link_small net short nodes l is;
      few = omega arith;
      count = ap Some (link_count (length l.stages) some most);
      back = refl;
    }
    (is_added 2 _ _ p.Links _ part.1
    (λ j. cond (new j) (Some Twice) (cond (not (known j)) (Some Unknown)
    (cond (not (range j)) (Some Range) (cond (room j) (Some TooMany) None))))
    ∙ ap (λ (ls : List LinkValue). Ok (state net p.Links ls)) (sym (map-append bare done (l ∷ []))))
    (λ n. refl) (reads_none _)

-- the LINK cards of all links
pub links_read : (net : Network) (part : Upto p.Links) → net.frame.step_count ≤ 120
    → All (IsNode net.frame.step_count) net.nodes → all_differ (link_numbers net.links) ≡ true
    → length net.links ≤ 1000 → AreLinks net net.links
    → (q : Upto p.Links) × Reads (state net part.0 []) (map link_card net.links) (state net q.0 (map bare net.links))
links_read net part short nodes once few fine =
    reads_map net.links (IsOne net) link_card
    (λ (q : Upto p.Links) (done more : List LinkValue). state net q.0 (map bare done))
    (λ q done more l whole is.
    let size : length (done ++ l ∷ more) ≡ length net.links = ap (λ (ls : List LinkValue). length ls) whole in (
      (p.Links, refl),
      link_read net q done l short nodes (middle net done more l whole once).before
          (omega (arith, length-append done (l ∷ more))) is,
    )) part fine

-- a link goes over from those that are still to come to those that are done
pub moved : (g h : LinkValue → LinkValue) (done more : List LinkValue) (l : LinkValue)
    → map g done ++ (g l ∷ map h more) ≡ map g (done ++ l ∷ []) ++ map h more
moved g h done more l =
    sym (ap (λ (ls : List LinkValue). ls ++ map h more) (map-append g done (l ∷ []))
    ∙ append_assoc (map g done) (g l ∷ []) (map h more))
