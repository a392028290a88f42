-- The YIELD cards of a valid network make the rules of its links again.
use Rattle.std.proofs.Common.{◌≡◌, arith, List, [], ◌∷◌, ◌++◌, map, true, false, cond, not, ◌&&◌, Option, Some}
use Rattle.std.proofs.Common.{None, refl, sym, ◌∙◌, ap, is_some, append_assoc, flat_map, IfSome, Ok, ◌≡◌}
use Rattle.std.proofs.lemmas.List.{append-nil, map-append}
use Rattle.std.proofs.lemmas.Simd.{map-map}
use Rattle.std.proofs.lemmas.Bool.{le-leb}
use Rattle.transyt_parts.specs.declared.link.GiveWay.{GiveWay}
use Rattle.transyt_parts.specs.Parts.{LinkValue}
use Rattle.transyt_parts.specs.Valid.{all_differ, link_number}
use Rattle.transyt_parts.specs.Made.{set_rule}
use Rattle.transyt_net.specs.declared.draft.DraftFault.TheVariants.{Range, Twice, Unknown}
use Rattle.transyt_net.specs.Parts.{Network, link_in}
use Rattle.transyt_net.specs.Valid.{IsRule, is_among, link_numbers, rule_at}
use Rattle.transyt_net.proofs.AfterLaws.{numbered_after, on_numbered_after}
use Rattle.transyt_deck.specs.declared.card.Card.TheVariants as c
use Rattle.transyt_deck.specs.declared.state.Part.TheVariants as p
use Rattle.transyt_deck.specs.Cards.{rule_cards}
use Rattle.transyt_deck.proofs.LinkBlocks.{fed, links_to, middle, state}
use Rattle.transyt_deck.proofs.NodeBlocks.{is_added}
use Rattle.transyt_deck.proofs.NumberTexts.{is_small}
use Rattle.transyt_deck.proofs.Reading.{Reads, Upto, reads_each, reads_more, reads_none}
use Rattle.transyt_deck.proofs.Small.{AreLinks, IsOne, small_le, small_named}

-- the YIELD card of one link, if it has one
rule_one : (net : Network) (part : Upto p.Feeds) (us vs : List LinkValue) (l : LinkValue) (o : Option GiveWay)
    → AreLinks net net.links → is_small l.number ≡ true → is_among (link_numbers us) l.number ≡ false
    → link_numbers us ++ l.number ∷ link_numbers vs ≡ link_numbers net.links
    → is_among (link_numbers net.links) l.number ≡ true → IfSome o (IsRule (link_numbers net.links))
    → (q : Upto p.Feeds)
    × Reads (state net part.0 (us ++ fed l ∷ vs)) (elim o [ None ↦ [] | Some g ↦ c.Yield l.number g ∷ [] ])
    (state net q.0 (us ++ record l { gives_way = o } ∷ vs))
rule_one net part us vs l None valid small apart names there fine = (part, reads_none _)
rule_one net part us vs l (Some g) valid small apart names there fine =
    let links = us ++ fed l ∷ vs in
    let named = map-append link_number us (fed l ∷ vs) ∙ names in
    let new : is_some (rule_at links l.number) ≡ false =
    ap (λ o. is_some (link_in o).gives_way) (numbered_after link_number us vs (fed l) apart) in
    let known : (is_among (link_numbers links) l.number && is_among (link_numbers links) g.other) ≡ true =
    λ j. (ap (λ ks. is_among ks l.number) named ∙ there) j && (ap (λ ks. is_among ks g.other) named ∙ fine.other) j in
    let range = le-leb g.percent 400 fine.percent in
    let other = small_named (IsOne net) link_number (λ y h. h.number.1) g.other net.links valid fine.other in
    let percent = small_le 400 g.percent fine.percent (omega arith) in (
      (p.Feeds, refl),
      reads_more {s = state net part.0 links} {card = c.Yield l.number g} record {
        small = λ j. small j && (other j && (percent j && true));
        few = omega arith;
        count = refl;
        back = refl;
      }
          (is_added 2 _ _ p.Feeds _ part.1
          (λ j. cond (new j) (Some Twice) (cond (not (known j)) (Some Unknown) (cond (not (range j)) (Some Range) None)))
          ∙ ap (λ (ls : List LinkValue). Ok (state net p.Feeds ls))
          (on_numbered_after link_number (set_rule g) us vs (fed l) apart))
          (λ n. refl) (reads_none _),
    )

-- the YIELD cards of all links
pub rules_read : (net : Network) (part : Upto p.Feeds) → all_differ (link_numbers net.links) ≡ true → AreLinks net net.links
    → (q : Upto p.Feeds)
    × Reads (state net part.0 (map fed net.links)) (flat_map rule_cards net.links) (state net q.0 net.links)
rules_read net part once valid =
    links_to net (append-nil net.links)
    (reads_each net.links (IsOne net) rule_cards
    (λ (q : Upto p.Feeds) (done more : List LinkValue). state net q.0 (done ++ map fed more))
    (λ q done more l whole is.
    let in_middle = middle net done more l whole once in
    let names : link_numbers done ++ l.number ∷ link_numbers (map fed more) ≡ link_numbers net.links =
    (λ j. link_numbers done ++ l.number ∷ map-map link_number fed more j)
    ∙ sym (map-append link_number done (l ∷ more)) ∙ ap link_numbers whole in
    let small = small_le 99999 l.number is.number.1 (omega arith) in
    links_to net (sym (append_assoc done (l ∷ []) (map fed more)))
    (rule_one net q done (map fed more) l l.gives_way valid small in_middle.before names in_middle.there is.rule))
    part [] net.links refl valid)
