-- One node more has no fault.
use Rattle.std.proofs.Common.{◌≡◌, ℕ, ◌+◌, ◌*◌, ◌<◌, true, false, List, [], ◌∷◌, ◌++◌, length}
use Rattle.std.proofs.Common.{Some, None, slice_get, nat_le, nat_eq, refl, ap, ◌∙◌}
use Rattle.std.proofs.Common.{arith}
use Rattle.std.proofs.lemmas.Bool.Decides.{nat_tests}
use Rattle.std.proofs.lemmas.List.FromFn.{map-range_with_len_more, length-map-range_with_len}
use Rattle.transyt_parts.specs.declared.node.Stage.{Stage}
use Rattle.transyt_parts.specs.Parts.{NodeValue}
use Rattle.transyt_parts.specs.Valid.{node_number, node_in_range, stage_in_range}
use Rattle.transyt_parts.specs.Made.{new_node, new_stage, add_stage}
use Rattle.transyt_net.specs.Parts.{Network}
use Rattle.transyt_net.specs.Valid.{is_among, node_numbers}
use Rattle.transyt_net.specs.Faults.{node_fault, with_node, stage_fault, with_stage, last_place}
use Rattle.transyt_net.proofs.AfterLaws.{get_last, last_is, on_last}
use Rattle.transyt_make.specs.Draws.{DrawsValue, draw, further}
use Rattle.transyt_make.specs.Made.{node_with, made_node, unplanned}
use Rattle.transyt_make.specs.declared.town.Town.{Town}
use Rattle.transyt_make.specs.declared.works.Works.{Works}
use Rattle.transyt_make.specs.Works.{node_works}
use Rattle.transyt_make.proofs.PlaceLaws.{not_among}

-- a new node has no fault
pub node_free : (net : Network) (place offset : ℕ) → net.frame.step_count ≡ 50
    → is_among (node_numbers net.nodes) (place + 1) ≡ false → length net.nodes < 200 → place < 200 → offset < 50
    → node_fault net (place + 1) offset ≡ None
node_free net place offset steps fresh few low at =
    let range : node_in_range net.frame.step_count (place + 1) offset ≡ true = grind (arith, nat_tests) in
    let room : nat_le 200 (length net.nodes) ≡ false = grind (arith, nat_tests) in
    rw (fresh, range, room)

-- a new stage of the last node has no fault
pub stage_free : (net : Network) (done : List NodeValue) (n : NodeValue) (change : ℕ)
    → net.frame.step_count ≡ 50 → net.nodes ≡ done ++ n ∷ [] → length n.stages < 8 → change < 50
    → stage_fault net (new_stage change 3 4) ≡ None
stage_free net done n change steps last few at =
    let range : stage_in_range net.frame.step_count (new_stage change 3 4) ≡ true = grind (arith, nat_tests) in
    let room : nat_le 8 (length n.stages) ≡ false = grind (arith, nat_tests) in
    let there : slice_get net.nodes (last_place net.nodes) ≡ Some n =
    ap (λ (nodes : List NodeValue). slice_get nodes (last_place nodes)) last
    ∙ ap (slice_get (done ++ n ∷ [])) (last_is done n) ∙ get_last done n in
    rw (range, there, room)

-- the network with that stage
pub stage_added : (net : Network) (done : List NodeValue) (n : NodeValue) (s : Stage) → net.nodes ≡ done ++ n ∷ []
    → with_stage net s ≡ record net { nodes = done ++ add_stage s n ∷ [] }
stage_added net done n s last =
    rw (last, last_is done n, on_last (add_stage s) done n)

-- the network with one node more
abbrev plus_node : Network → NodeValue → Network
plus_node net n = record net { nodes = net.nodes ++ n ∷ [] }

-- a new node and its first stage
pub first_stage : (d0 d1 d2 : Network) (place offset : ℕ) → d1 ≡ with_node d0 (place + 1) offset
    → d2 ≡ with_stage d1 (new_stage 0 3 4)
    → d2 ≡ plus_node d0 (add_stage (new_stage 0 3 4) (new_node (place + 1) offset))
first_stage d0 d1 d2 place offset node stage =
    rw (stage, node)
    (stage_added (with_node d0 (place + 1) offset) d0.nodes (new_node (place + 1) offset) (new_stage 0 3 4) refl)

-- and its second
pub second_stage : (d0 d2 d3 : Network) (place offset change : ℕ)
    → d2 ≡ plus_node d0 (add_stage (new_stage 0 3 4) (new_node (place + 1) offset))
    → d3 ≡ with_stage d2 (new_stage change 3 4)
    → d3 ≡ plus_node d0 (node_with place offset change)
second_stage d0 d2 d3 place offset change before stage =
    let n = add_stage (new_stage 0 3 4) (new_node (place + 1) offset) in
    rw (stage, before) (stage_added (plus_node d0 n) d0.nodes n (new_stage change 3 4) refl)

-- numbers of places are apart
pub apart : (i place : ℕ) → i < place → nat_eq (place + 1) (i + 1) ≡ false
apart i place before = grind (arith, nat_tests)

-- the network with the next node of a seed
pub one_node : (seed place : ℕ) (d e : Network) (o c : ℕ) → o ≡ draw seed (2 * place) 50
    → c ≡ draw seed (2 * place + 1) 21 → d ≡ unplanned seed place [] → e ≡ plus_node d (node_with place o (15 + c))
    → e ≡ unplanned seed (place + 1) []
one_node seed place d e o c first second before more =
    rw (more, before, first, second, map-range_with_len_more (made_node seed) 0 place place (omega arith))

-- a draw, by how many were taken
pub drawn_at : (d : DrawsValue) (seed k a v : ℕ) → d.seed ≡ seed → d.taken ≡ k → v ≡ draw d.seed d.taken a
    → v ≡ draw seed k a
drawn_at d seed k a v same taken is = rw (is, same, taken)

-- one draw more
pub one_more : (seed k m : ℕ) (e f : DrawsValue) → e ≡ record { seed = seed; taken = k } → f ≡ further e 1 → k + 1 ≡ m
    → f ≡ record { seed = seed; taken = m }
one_more seed k m e f before more is =
    more ∙ ap (λ (d : DrawsValue). further d 1) before ∙ ap (λ t. record { seed = seed; taken = t }) is

-- so many draws more, and then one
pub one_further : (d e f : DrawsValue) (k m : ℕ) → e ≡ further d k → f ≡ further e 1 → k + 1 ≡ m → f ≡ further d m
one_further d e f k m before more is =
    one_more d.seed (d.taken + k) (d.taken + m) e f before more (omega (arith, is))

-- the next node of a town has no fault
pub next_free : (town : Town) (w : Works) (place offset : ℕ) → w ≡ node_works town place → place < town.nodes → offset < 50
    → node_fault w.draft (place + 1) offset ≡ None
next_free town w place offset before inside at =
    let fresh = not_among node_number (made_node town.seed) place (place + 1) (λ i earlier. apart i place earlier) in
    let count = length-map-range_with_len (made_node town.seed) 0 place in
    rw before
    (node_free (unplanned town.seed place []) place offset refl fresh (omega (arith, count, inside, town.most))
    (omega (arith, inside, town.most)) at)

-- the town with its next node
pub node_done : (town : Town) (w : Works) (place o c : ℕ) (d f : DrawsValue) (e : Network) → w ≡ node_works town place
    → o ≡ draw w.draws.seed w.draws.taken 50 → d ≡ further w.draws 1 → c ≡ draw d.seed d.taken 21 → f ≡ further d 1
    → e ≡ plus_node w.draft (node_with place o (15 + c))
    → record { town = w.town; draws = f; draft = e } ≡ node_works town (place + 1)
node_done town w place o c d f e before first once second twice more =
    let start = ap (λ (x : Works). x.draws) before in
    let middle = one_more town.seed (2 * place) (2 * place + 1) _ _ start once (omega arith) in
    let draws = one_more town.seed (2 * place + 1) (2 * (place + 1)) _ _ middle twice (omega arith) in
    let draft = one_node town.seed place w.draft e o c (first ∙ ap (λ (x : DrawsValue). draw x.seed x.taken 50) start)
    (second ∙ ap (λ (x : DrawsValue). draw x.seed x.taken 21) middle) (ap (λ (x : Works). x.draft) before) more in
    rw (draws, draft, before) refl
