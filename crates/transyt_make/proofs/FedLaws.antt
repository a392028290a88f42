-- The feeds, link by link.
use Rattle.std.proofs.Common.{◌≡◌, ℕ, suc, zero, ◌+◌, ◌-◌, ◌*◌, ◌<◌, ◌≤◌, true, false, List, [], ◌∷◌, ◌++◌, map}
use Rattle.std.proofs.Common.{ap, refl, sym, ◌∙◌, add-one, arith, append_assoc, Some, None, is_some}
use Rattle.std.proofs.lemmas.Bool.{cond_both}
use Rattle.std.proofs.lemmas.Bool.Decides.{nat_tests}
use Rattle.std.proofs.lemmas.List.{map-append}
use Rattle.std.proofs.lemmas.List.FromFn.{map-range_with_len_more}
use Rattle.std.specs.List.{range_with_len}
use Rattle.transyt_parts.specs.declared.link.Feed.{Feed}
use Rattle.transyt_parts.specs.Parts.{LinkValue}
use Rattle.transyt_parts.specs.Valid.{link_number}
use Rattle.transyt_net.specs.Parts.{Network, link_in}
use Rattle.transyt_net.specs.Valid.{is_among, link_numbers, feeds_at}
use Rattle.transyt_net.specs.Faults.{with_feed}
use Rattle.transyt_net.proofs.AfterLaws.{numbered_after}
use Rattle.transyt_make.specs.Draws.{DrawsValue, further}
use Rattle.transyt_make.specs.Made.{number_at, side_at, turning, neighbour, bare_link, made_link, with_links}
use Rattle.transyt_make.specs.Made.{with_feeds, fed_before, feeds_from, draws_by}
use Rattle.transyt_make.specs.declared.town.Town.{Town}
use Rattle.transyt_make.specs.declared.works.Works.{Works}
use Rattle.transyt_make.specs.Works.{link_works, feed_works}
use Rattle.transyt_make.proofs.PlaceLaws.{among, not_among}
use Rattle.transyt_make.proofs.LinkLaws.{numbers_apart}
use Rattle.transyt_make.proofs.FeedLaws.{three_middle}

-- at most as many links have a neighbour as there are
pub fed_most : (n k : ℕ) → fed_before n k ≤ k
fed_most n zero = omega arith
fed_most n (suc k) =
    let before = fed_most n k in
    cond_both (is_some (neighbour n k)) 1 0 (λ m. fed_before n k + m ≤ suc k) (λ some. omega (arith, before))
    (λ none. omega (arith, before))

-- the link that a turn comes from stands first or third
pub turning_within : (side : ℕ) → (1 ≤ turning side) × (turning side ≤ 3)
turning_within side = (grind (arith, nat_tests), grind (arith, nat_tests))

-- the links from a place on, without their feeds
abbrev bare_from : ℕ → ℕ → ℕ → List LinkValue
bare_from seed n k = map (bare_link seed n) (range_with_len k (4 * n - k))

-- the link whose feeds come next stands after those that have theirs
pub links_at : (seed n k : ℕ) → k < 4 * n
    → (with_feeds seed n k).links
    ≡ map (made_link seed n) (range_with_len 0 k) ++ bare_link seed n k ∷ bare_from seed n (k + 1)
links_at seed n k inside =
    let count : 4 * n - k ≡ suc (4 * n - (k + 1)) = omega arith in
    rw count

-- with its feeds it is one of these
seam : (seed n k : ℕ) → map (made_link seed n) (range_with_len 0 k) ++ made_link seed n k ∷ bare_from seed n (k + 1)
    ≡ (with_feeds seed n (k + 1)).links
seam seed n k =
    rw (
      map-range_with_len_more (made_link seed n) 0 k k (omega arith),
      append_assoc (map (made_link seed n) (range_with_len 0 k)) (made_link seed n k ∷ []) (bare_from seed n (k + 1)),
    )

-- its number is that of none of them
fresh : (seed n k : ℕ) → is_among (link_numbers (map (made_link seed n) (range_with_len 0 k))) (number_at k) ≡ false
fresh seed n k = not_among link_number (made_link seed n) k (number_at k) (λ i before. numbers_apart i k before)

-- it has no feed yet
pub unfed_at : (seed n k : ℕ) → k < 4 * n → feeds_at (with_feeds seed n k).links (number_at k) ≡ []
unfed_at seed n k inside =
    ap (λ ls. feeds_at ls (number_at k)) (links_at seed n k inside)
    ∙ ap (λ o. (link_in o).feeds) (numbered_after link_number (map (made_link seed n) (range_with_len 0 k))
    (bare_from seed n (k + 1)) (bare_link seed n k) (fresh seed n k))

-- the network with the feeds of one link more
fed_draft : (seed n k from number : ℕ) (draws : DrawsValue) (d e : Network) (f s t : Feed) → k < 4 * n
    → d ≡ with_feeds seed n k → number ≡ number_at k → neighbour n k ≡ Some from → draws ≡ draws_by seed n k
    → feeds_from draws.seed draws.taken (side_at k) from ≡ f ∷ s ∷ t ∷ []
    → e ≡ with_feed (with_feed (with_feed d number f) number s) number t → e ≡ with_feeds seed n (k + 1)
fed_draft seed n k from number draws d e f s t inside before named beside drawn value more =
    let us = map (made_link seed n) (range_with_len 0 k) in
    let vs = bare_from seed n (k + 1) in
    let net = with_feeds seed n k in
    let made : record (bare_link seed n k) { feeds = f ∷ s ∷ t ∷ [] } ≡ made_link seed n k =
    rw beside (rw (rw drawn at value)) in
    rw (more, before, named, three_middle net us vs (bare_link seed n k) f s t (fresh seed n k) (links_at seed n k inside))
    (ap (λ (l : LinkValue). record net { links = us ++ l ∷ vs }) made
    ∙ ap (λ (ls : List LinkValue). record net { links = ls }) (seam seed n k))

-- the draws after the feeds of one link more
fed_draws : (seed n k from : ℕ) (d e : DrawsValue) → neighbour n k ≡ Some from → d ≡ draws_by seed n k
    → e ≡ further d 4 → e ≡ draws_by seed n (k + 1)
fed_draws seed n k from d e beside before more =
    rw (more, before, add-one k, beside) (ap (λ t. record { seed = seed; taken = t }) (omega arith))

-- the town with the feeds of its next link
pub feeds_done : (town : Town) (w : Works) (k from number : ℕ) (d : DrawsValue) (e : Network) (f s t : Feed)
    → w ≡ feed_works town k → k < 4 * town.nodes → number ≡ number_at k → neighbour town.nodes k ≡ Some from
    → feeds_from w.draws.seed w.draws.taken (side_at k) from ≡ f ∷ s ∷ t ∷ [] → d ≡ further w.draws 4
    → e ≡ with_feed (with_feed (with_feed w.draft number f) number s) number t
    → record { town = w.town; draws = d; draft = e } ≡ feed_works town (k + 1)
feeds_done town w k from number d e f s t before inside named beside value taken more =
    let start = ap (λ (x : Works). x.draws) before in
    let draws = fed_draws town.seed town.nodes k from w.draws d beside start taken in
    let draft = fed_draft town.seed town.nodes k from number w.draws w.draft e f s t inside
    (ap (λ (x : Works). x.draft) before) named beside start value more in
    rw (draws, draft, before) refl

-- a link that has no neighbour is made already
unfed_draft : (seed n k : ℕ) → k < 4 * n → neighbour n k ≡ None → with_feeds seed n k ≡ with_feeds seed n (k + 1)
unfed_draft seed n k inside alone =
    let made : bare_link seed n k ≡ made_link seed n k = rw alone in
    ap (λ (ls : List LinkValue). record (with_feeds seed n k) { links = ls }) (
    links_at seed n k inside
    ∙ ap (λ (l : LinkValue). map (made_link seed n) (range_with_len 0 k) ++ l ∷ bare_from seed n (k + 1)) made
    ∙ seam seed n k
    )

-- so the town stays as it is
pub unfed_done : (town : Town) (k : ℕ) → k < 4 * town.nodes → neighbour town.nodes k ≡ None
    → feed_works town k ≡ feed_works town (k + 1)
unfed_done town k inside alone =
    let draws : draws_by town.seed town.nodes k ≡ draws_by town.seed town.nodes (k + 1) =
    rw (add-one k, alone) (ap (λ t. record { seed = town.seed; taken = t }) (omega arith)) in
    let draft = unfed_draft town.seed town.nodes k inside alone in
    rw (draws, draft) refl

-- no feed is there yet
feeds_begin : (seed n : ℕ) → with_links seed n (4 * n) ≡ with_feeds seed n 0
feeds_begin seed n =
    let count : 4 * n ≡ 4 * n - 0 = omega arith in
    ap (λ m. record (with_feeds seed n 0) { links = map (bare_link seed n) (range_with_len 0 m) }) count

-- so the town has all its links, and no feeds
pub works_begin : (town : Town) → link_works town (4 * town.nodes) ≡ feed_works town 0
works_begin town =
    let draws : record { seed = town.seed; taken = 2 * town.nodes + 4 * town.nodes } ≡ draws_by town.seed town.nodes 0 =
    ap (λ t. record { seed = town.seed; taken = t }) (omega arith) in
    rw (draws, feeds_begin town.seed town.nodes) refl

-- feeds keep the numbers
fed_names : (seed n k : ℕ) → k ≤ 4 * n
    → link_numbers (with_feeds seed n k).links ≡ link_numbers (with_links seed n (4 * n)).links
fed_names seed n zero inside = ap (λ (d : Network). link_numbers d.links) (sym (feeds_begin seed n))
fed_names seed n (suc k) inside =
    let us = map (made_link seed n) (range_with_len 0 k) in
    let vs = bare_from seed n (k + 1) in
    ap (λ m. link_numbers (with_feeds seed n m).links) (sym (add-one k)) ∙ ap link_numbers (sym (seam seed n k))
    ∙ map-append link_number us (made_link seed n k ∷ vs) ∙ sym (map-append link_number us (bare_link seed n k ∷ vs))
    ∙ ap link_numbers (sym (links_at seed n k (omega arith))) ∙ fed_names seed n k (omega arith)

-- the link at a place is there
pub place_there : (seed n k place number : ℕ) → k ≤ 4 * n → place < 4 * n → number_at place ≡ number
    → is_among (link_numbers (with_feeds seed n k).links) number ≡ true
place_there seed n k place number fed inside is =
    rw (fed_names seed n k fed) (among link_number (bare_link seed n) (4 * n) place number inside is)

-- a link of a node is there
pub link_there : (seed n k j side number : ℕ) → k ≤ 4 * n → 1 ≤ j → j ≤ n → 1 ≤ side → side ≤ 4
    → number ≡ 10 * j + side → is_among (link_numbers (with_feeds seed n k).links) number ≡ true
link_there seed n k j side number fed some most first last is =
    place_there seed n k (4 * (j - 1) + (side - 1)) number fed (omega arith) (grind (arith, is))
