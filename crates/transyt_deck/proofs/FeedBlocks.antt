-- The FEED cards of a valid network make the feeds of its links again.
use Rattle.std.proofs.Common.{◌≡◌, ℕ, ◌<◌, ◌≤◌, nat_le, List, [], ◌∷◌, ◌++◌, map, length, true, false}
use Rattle.std.proofs.Common.{cond, not, ◌&&◌, Some, None, Ok, refl, sym, ◌∙◌, ap, arith, flat_map}
use Rattle.std.proofs.Common.{length-append}
use Rattle.std.proofs.lemmas.List.{append-nil, map-append}
use Rattle.std.proofs.lemmas.Simd.{map-map}
use Rattle.std.proofs.lemmas.Bool.{lt-leb}
use Rattle.std.proofs.lemmas.Bool.Decides.{nat_tests}
use Rattle.transyt_parts.specs.declared.link.Feed.{Feed}
use Rattle.transyt_parts.specs.Parts.{LinkValue}
use Rattle.transyt_parts.specs.Valid.{all_differ, feeders, is_fed, link_number, feed_in_range}
use Rattle.transyt_parts.specs.Made.{add_feed}
use Rattle.transyt_net.specs.declared.draft.DraftFault.TheVariants.{Range, TooMany, Twice, Unknown}
use Rattle.transyt_net.specs.Parts.{Network, link_in}
use Rattle.transyt_net.proofs.AfterLaws.{numbered_after, on_numbered_after}
use Rattle.transyt_net.proofs.FoundLaws.{fed_is}
use Rattle.transyt_net.specs.Valid.{IsFeed, feeds_at, is_among, link_numbers}
use Rattle.transyt_deck.specs.declared.card.Card.TheVariants as c
use Rattle.transyt_deck.specs.declared.state.Part.TheVariants as p
use Rattle.transyt_deck.specs.Cards.{feed_cards}
use Rattle.transyt_deck.proofs.LinkBlocks.{bare, fed, links_to, middle, moved, state, with_feeds}
use Rattle.transyt_deck.proofs.LinkNumbers.{key_apart}
use Rattle.transyt_deck.proofs.NodeBlocks.{is_added}
use Rattle.transyt_deck.proofs.NumberTexts.{is_small}
use Rattle.transyt_deck.proofs.Reading.{Reads, Upto, reads_each, reads_map, reads_more, reads_none}
use Rattle.transyt_deck.proofs.Small.{AreLinks, IsOne, small_le, small_named}

feed_true : (numbers : List ℕ) (f : Feed) → IsFeed numbers f → feed_in_range f ≡ true
feed_true numbers f h = grind (arith, nat_tests)

-- the facts that stay while the FEED cards of one link are read
record IsFeeding (net : Network) (us vs : List LinkValue) (l : LinkValue) : Type 0 where
  valid : AreLinks net net.links
  small : is_small l.number ≡ true
  apart : is_among (link_numbers us) l.number ≡ false
  names : link_numbers us ++ l.number ∷ link_numbers vs ≡ link_numbers net.links
  there : is_among (link_numbers net.links) l.number ≡ true

feed_read : (net : Network) (part : Upto p.Feeds) (us vs : List LinkValue) (l : LinkValue) (fs : List Feed) (g : Feed)
    → IsFeeding net us vs l → is_among (feeders fs) g.feeder ≡ false → length fs < 8 → IsFeed (link_numbers net.links) g
    → Reads (state net part.0 (us ++ with_feeds l fs ∷ vs)) (c.Feed l.number g ∷ [])
    (state net p.Feeds (us ++ with_feeds l (fs ++ g ∷ []) ∷ vs))
feed_read net part us vs l fs g of_link first low is =
    let links = us ++ with_feeds l fs ∷ vs in
    let names = map-append link_number us (with_feeds l fs ∷ vs) ∙ of_link.names in
    let found : feeds_at links l.number ≡ fs =
    ap (λ o. (link_in o).feeds) (numbered_after link_number us vs (with_feeds l fs) of_link.apart) in
    let new : is_fed (feeds_at links l.number) g.feeder ≡ false =
    ap (λ k. is_fed k g.feeder) found ∙ fed_is fs g.feeder ∙ first in
    let known : (is_among (link_numbers links) l.number && is_among (link_numbers links) g.feeder) ≡ true =
    λ j. (ap (λ ks. is_among ks l.number) names ∙ of_link.there) j
    && (ap (λ ks. is_among ks g.feeder) names ∙ is.feeder) j in
    let range = feed_true (link_numbers net.links) g is in
    let room : nat_le 8 (length (feeds_at links l.number)) ≡ false = ap (λ (k : List Feed). nat_le 8 (length k)) found
    ∙ lt-leb 8 (length fs) low in
    let small = of_link.small in
    let feeder = small_named (IsOne net) link_number (λ y h. h.number.1) g.feeder net.links of_link.valid is.feeder in
    reads_more {s = state net part.0 links} {card = c.Feed l.number g}
    record { small = grind (arith, nat_tests); few = omega arith; count = refl; back = refl }
    (is_added 2 _ _ p.Feeds _ part.1
    (λ j. cond (new j) (Some Twice) (cond (not (known j)) (Some Unknown)
    (cond (not (range j)) (Some Range) (cond (room j) (Some TooMany) None))))
    ∙ ap (λ (ls : List LinkValue). Ok (state net p.Feeds ls))
    (on_numbered_after link_number (add_feed g) us vs (with_feeds l fs) of_link.apart))
    (λ n. refl) (reads_none _)

-- the FEED cards of one link
feeds_one : (net : Network) (part : Upto p.Feeds) (us vs : List LinkValue) (l : LinkValue) → IsFeeding net us vs l
    → IsOne net l → (q : Upto p.Feeds) × Reads (state net part.0 (us ++ with_feeds l [] ∷ vs)) (feed_cards l)
    (state net q.0 (us ++ with_feeds l l.feeds ∷ vs))
feeds_one net part us vs l of_link is =
    reads_map l.feeds (IsFeed (link_numbers net.links)) (λ g. c.Feed l.number g)
    (λ (q : Upto p.Feeds) (fs more : List Feed). state net q.0 (us ++ with_feeds l fs ∷ vs))
    (λ q fs more g whole fine.
    let few : length l.feeds ≤ 8 = is.feed_count in
    let size : length (fs ++ g ∷ more) ≡ length l.feeds = ap (λ (k : List Feed). length k) whole in
    let once = ap (λ (k : List Feed). all_differ (feeders k)) whole ∙ is.feeders_differ in (
      (p.Feeds, refl),
      feed_read net q us vs l fs g of_link (key_apart (λ f. f.feeder) fs more g once)
          (omega (arith, length-append fs (g ∷ more))) fine,
    )) part is.feeds

-- the FEED cards of all links
pub feeds_read : (net : Network) (part : Upto p.Feeds) → all_differ (link_numbers net.links) ≡ true → AreLinks net net.links
    → (q : Upto p.Feeds) × Reads (state net part.0 (map bare net.links)) (flat_map feed_cards net.links)
    (state net q.0 (map fed net.links))
feeds_read net part once valid =
    links_to net (append-nil (map fed net.links))
    (reads_each net.links (IsOne net) feed_cards
    (λ (q : Upto p.Feeds) (done more : List LinkValue). state net q.0 (map fed done ++ map bare more))
    (λ q done more l whole is.
    let in_middle = middle net done more l whole once in
    let of_link : IsFeeding net (map fed done) (map bare more) l = record {
      valid = valid;
      small = small_le 99999 l.number is.number.1 (omega arith);
      apart = ap (λ ks. is_among ks l.number) (map-map link_number fed done) ∙ in_middle.before;
      names = (λ j. map-map link_number fed done j ++ l.number ∷ map-map link_number bare more j)
          ∙ sym (map-append link_number done (l ∷ more)) ∙ ap link_numbers whole;
      there = in_middle.there;
    } in
    links_to net (moved fed bare done more l) (feeds_one net q (map fed done) (map bare more) l of_link is))
    part [] net.links refl valid)
