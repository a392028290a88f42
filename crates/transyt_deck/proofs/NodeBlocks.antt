-- The NODE and STAGE cards of a valid network make its nodes again.
use Rattle.std.proofs.Common.{◌≡◌, ℕ, ◌<◌, ◌≤◌, nat_le, List, [], ◌∷◌, ◌++◌, map, length, Bool, true, false}
use Rattle.std.proofs.Common.{cond, not, Option, Some, None, Ok, Err, refl, ◌∙◌, ap, arith}
use Rattle.std.proofs.Common.{flat_map, length-append, slice_get, All, option_and_then}
use Rattle.std.proofs.lemmas.Bool.{lt-leb}
use Rattle.std.proofs.lemmas.Bool.Decides.{nat_tests}
use Rattle.transyt_syntax.specs.declared.code.Code.TheVariants as code
use Rattle.transyt_syntax.specs.Syntax.{unless}
use Rattle.transyt_parts.specs.declared.frame.Frame.{Frame}
use Rattle.transyt_parts.specs.declared.node.Stage.{Stage}
use Rattle.transyt_parts.specs.Parts.{NodeValue}
use Rattle.transyt_parts.specs.Valid.{IsNode, IsStage, all_differ, node_number, node_in_range, stage_in_range}
use Rattle.transyt_parts.specs.Made.{add_stage}
use Rattle.transyt_net.specs.declared.draft.DraftFault.{DraftFault}
use Rattle.transyt_net.specs.declared.draft.DraftFault.TheVariants.{Range, TooMany, Twice}
use Rattle.transyt_net.specs.Parts.{Network, network_of}
use Rattle.transyt_net.specs.Valid.{is_among, node_numbers, on_place, stage_total}
use Rattle.transyt_net.specs.Faults.{last_place}
use Rattle.transyt_net.proofs.AfterLaws.{get_last, last_is, on_last}
use Rattle.transyt_deck.specs.declared.card.Card.TheVariants as c
use Rattle.transyt_deck.specs.declared.state.Part.{Part}
use Rattle.transyt_deck.specs.declared.state.Part.TheVariants as p
use Rattle.transyt_deck.specs.declared.state.State.{State}
use Rattle.transyt_deck.specs.declared.state.State.TheVariants as s
use Rattle.transyt_deck.specs.Cards.{node_cards}
use Rattle.transyt_deck.specs.State.{fault_code, making, placed}
use Rattle.transyt_deck.proofs.LinkNumbers.{key_apart}
use Rattle.transyt_deck.proofs.Reading.{Reads, Upto, reads_each, reads_map, reads_more, reads_none}

-- a card in its place without a fault is added
pub is_added : (form : ℕ) (fits : Bool) (fault : Option DraftFault) (part : Part) (net : Network) → fits ≡ true
    → fault ≡ None → making form (placed fits fault part net) ≡ Ok (s.Making form part net)
is_added form fits fault part net a b =
    λ j. making form (cond (a j) (unless (option_and_then fault_code (b j)) (part, net)) (Err code.OutOfPlace))

-- the state when these nodes are added
abbrev pub nodes_state : Frame → Part → List NodeValue → State
nodes_state f part done = s.Making 2 part (network_of f done [] None)

abbrev node : ℕ → ℕ → List Stage → NodeValue
node number offset stages = record { number = number; offset = offset; stages = stages }

stage_true : (steps : ℕ) (s : Stage) → IsStage steps s → stage_in_range steps s ≡ true
stage_true steps s h = grind (arith, nat_tests)

stage_read : (f : Frame) (done : List NodeValue) (number offset : ℕ) (ss : List Stage) (s : Stage) → f.step_count ≤ 120
    → length ss < 8 → IsStage f.step_count s
    → Reads (nodes_state f p.Nodes (done ++ node number offset ss ∷ [])) (c.Stage s ∷ [])
    (nodes_state f p.Nodes (done ++ node number offset (ss ++ s ∷ []) ∷ []))
stage_read f done number offset ss s short low is =
    let last = node number offset ss in
    let nodes = done ++ last ∷ [] in
    let range = stage_true f.step_count s is in
    let found : slice_get nodes (last_place nodes) ≡ Some last = ap (slice_get nodes) (last_is done last)
    ∙ get_last done last in
    let room : nat_le 8 (stage_total (slice_get nodes (last_place nodes))) ≡ false =
    ap (λ o. nat_le 8 (stage_total o)) found ∙ lt-leb 8 (length ss) low in
    let made : on_place (add_stage s) nodes (last_place nodes) ≡ done ++ node number offset (ss ++ s ∷ []) ∷ [] =
    ap (on_place (add_stage s) nodes) (last_is done last) ∙ on_last (add_stage s) done last in
    reads_more {s = nodes_state f p.Nodes nodes} {card = c.Stage s}
    record { small = grind (arith, nat_tests); few = omega arith; count = refl; back = refl }
    (is_added 2 _ _ p.Nodes _ refl (λ j. cond (not (range j)) (Some Range) (cond (room j) (Some TooMany) None))
    ∙ ap (λ (ns : List NodeValue). Ok (nodes_state f p.Nodes ns)) made)
    (λ n. refl) (reads_none _)

stages_read : (f : Frame) (done : List NodeValue) (number offset : ℕ) (stages : List Stage) → f.step_count ≤ 120
    → length stages ≤ 8 → All (IsStage f.step_count) stages
    → Reads (nodes_state f p.Nodes (done ++ node number offset [] ∷ [])) (map c.Stage stages)
    (nodes_state f p.Nodes (done ++ node number offset stages ∷ []))
stages_read f done number offset stages short few fine = (reads_map stages (IsStage f.step_count) (λ s. c.Stage s)
    (λ (u : Unit {0}) (ss more : List Stage). nodes_state f p.Nodes (done ++ node number offset ss ∷ []))
    (λ u ss more s whole is.
    let size : length (ss ++ s ∷ more) ≡ length stages = ap (λ (l : List Stage). length l) whole in
    (tt, stage_read f done number offset ss s short (omega (arith, length-append ss (s ∷ more))) is)) tt fine).1

node_true : (steps : ℕ) (n : NodeValue) → IsNode steps n → node_in_range steps n.number n.offset ≡ true
node_true steps n h = grind (arith, nat_tests)

node_read : (f : Frame) (part : Upto p.Nodes) (done : List NodeValue) (n : NodeValue) → f.step_count ≤ 120
    → is_among (node_numbers done) n.number ≡ false → length done < 200 → IsNode f.step_count n
    → Reads (nodes_state f part.0 done) (node_cards n) (nodes_state f p.Nodes (done ++ n ∷ []))
node_read f part done n short new low is =
    let range = node_true f.step_count n is in
    let room : nat_le 200 (length done) ≡ false = lt-leb 200 (length done) low in
    let few : length n.stages ≤ 8 = is.stage_count in
    reads_more {s = nodes_state f part.0 done} {card = c.Node n.number n.offset}
    record { small = grind (arith, nat_tests); few = omega arith; count = refl; back = refl }
    (is_added 2 _ _ p.Nodes _ part.1
    (λ j. cond (new j) (Some Twice) (cond (not (range j)) (Some Range) (cond (room j) (Some TooMany) None))))
    (λ n. refl) (stages_read f done n.number n.offset n.stages short few is.stages)

-- the cards of all nodes
pub nodes_read : (f : Frame) (part : Upto p.Nodes) (nodes : List NodeValue) → f.step_count ≤ 120
    → all_differ (node_numbers nodes) ≡ true → length nodes ≤ 200 → All (IsNode f.step_count) nodes
    → (q : Upto p.Nodes) × Reads (nodes_state f part.0 []) (flat_map node_cards nodes) (nodes_state f q.0 nodes)
nodes_read f part nodes short once few fine =
    reads_each nodes (IsNode f.step_count) node_cards
    (λ (q : Upto p.Nodes) (done more : List NodeValue). nodes_state f q.0 done)
    (λ q done more n whole is.
    let new = key_apart node_number done more n (ap (λ (l : List NodeValue). all_differ (node_numbers l)) whole ∙ once) in
    let size : length (done ++ n ∷ more) ≡ length nodes = ap (λ (l : List NodeValue). length l) whole in
    ((p.Nodes, refl), node_read f q done n short new (omega (arith, length-append done (n ∷ more))) is))
    part [] nodes refl fine
