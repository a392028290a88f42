-- The links, place by place.
use Rattle.std.proofs.Common.{◌≡◌, ℕ, ◌+◌, ◌*◌, ◌/◌, ◌<◌, ◌≤◌, Bool, true, false, length, map, refl, ap}
use Rattle.std.proofs.Common.{arith, nat_eq, nat_le, is_some, Option, None}
use Rattle.std.proofs.lemmas.Bool.Decides.{nat_tests}
use Rattle.std.specs.List.{range_with_len}
use Rattle.std.proofs.lemmas.List.FromFn.{map-range_with_len_more, length-map-range_with_len}
use Rattle.transyt_parts.specs.Valid.{node_number, link_number, link_in_range, within}
use Rattle.transyt_net.specs.Parts.{Network}
use Rattle.transyt_net.specs.Valid.{is_among, node_numbers, stages_at, stage_total}
use Rattle.transyt_net.specs.Faults.{link_fault, with_link}
use Rattle.transyt_make.specs.Draws.{DrawsValue, further}
use Rattle.transyt_make.specs.Made.{made_node, node_at, number_at, stage_at, link_with, bare_link, neighbour, entry_from}
use Rattle.transyt_make.specs.Made.{with_links}
use Rattle.transyt_make.specs.declared.town.Town.{Town}
use Rattle.transyt_make.specs.declared.works.Works.{Works}
use Rattle.transyt_make.specs.Works.{link_works}
use Rattle.transyt_make.proofs.PlaceLaws.{among, not_among, numbered_at}
use Rattle.transyt_make.proofs.NodeLaws.{apart, one_more}

-- numbers of links rise with their places
pub numbers_apart : (a b : ℕ) → a < b → nat_eq (number_at b) (number_at a) ≡ false
numbers_apart a b before = grind (arith, nat_tests)

-- the node of a link is there
pub node_there : (seed n place : ℕ) → place < 4 * n
    → is_among (node_numbers (map (made_node seed) (range_with_len 0 n))) (node_at place) ≡ true
node_there seed n place inside = among node_number (made_node seed) n (place / 4) (node_at place) (omega arith) refl

-- it has two stages
pub two_stages : (seed n place : ℕ) → place < 4 * n
    → stages_at (map (made_node seed) (range_with_len 0 n)) (node_at place) ≡ 2
two_stages seed n place inside =
    ap stage_total (numbered_at node_number (made_node seed) n (place / 4) apart (omega arith))

-- the next link has no fault
pub next_free : (town : Town) (w : Works) (place entry : ℕ) → w ≡ link_works town place → place < 4 * town.nodes
    → entry ≤ 500 → link_fault w.draft (link_with place entry) ≡ None
next_free town w place entry before inside small =
    let links = map (bare_link town.seed town.nodes) (range_with_len 0 place) in
    let low : place < 800 = omega (arith, inside, town.most) in
    let fresh = not_among link_number (bare_link town.seed town.nodes) place (number_at place)
    (λ i earlier. numbers_apart i place earlier) in
    let stage : within 1 2 (stage_at place) ≡ true = grind (arith, nat_tests) in
    let range : link_in_range 50 (link_with place entry) ≡ true = grind (arith, nat_tests) in
    let count = length-map-range_with_len (bare_link town.seed town.nodes) 0 place in
    let room : nat_le 1000 (length links) ≡ false = grind (arith, nat_tests) in
    rw (
      before,
      fresh,
      node_there town.seed town.nodes place inside,
      two_stages town.seed town.nodes place inside,
      stage,
      range,
      room,
    )

-- the network with the next link
one_link : (seed n place entry : ℕ) (d e : Network)
    → entry ≡ entry_from seed (2 * n + place) (is_some (neighbour n place)) → d ≡ with_links seed n place
    → e ≡ with_link d (link_with place entry) → e ≡ with_links seed n (place + 1)
one_link seed n place entry d e drawn before more =
    rw (more, before, drawn, map-range_with_len_more (bare_link seed n) 0 place place (omega arith))

-- the town with its next link
pub link_done : (town : Town) (w : Works) (place v : ℕ) (fed : Bool) (o : Option ℕ) (d : DrawsValue) (e : Network)
    → w ≡ link_works town place → o ≡ neighbour town.nodes place → fed ≡ is_some o
    → v ≡ entry_from w.draws.seed w.draws.taken fed → d ≡ further w.draws 1 → e ≡ with_link w.draft (link_with place v)
    → record { town = w.town; draws = d; draft = e } ≡ link_works town (place + 1)
link_done town w place v fed o d e before from some drawn taken more =
    let n = town.nodes in
    let entry : v ≡ entry_from town.seed (2 * n + place) (is_some (neighbour n place)) = rw (drawn, before, some, from) in
    let draws = one_more town.seed (2 * n + place) (2 * n + (place + 1)) _ _ (ap (λ (x : Works). x.draws) before) taken
    (omega arith) in
    let draft = one_link town.seed n place v w.draft e entry (ap (λ (x : Works). x.draft) before) more in
    rw (draws, draft, before) refl
