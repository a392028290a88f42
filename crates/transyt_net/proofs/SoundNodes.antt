-- A draft stays sound with a new node and a new stage.
use Rattle.std.proofs.Common.{[], ◌≡◌, ℕ, true, ◌∷◌, ◌++◌, length, None, refl}
use Rattle.std.proofs.Common.{ap, ◌∙◌, arith, length-append}
use Rattle.std.proofs.Common.{◌≤◌, All, List, map, sym}
use Rattle.std.proofs.lemmas.Bool.Decides.{nat_tests}
use Rattle.std.proofs.lemmas.List.{map-append}
use Rattle.std.proofs.lemmas.List.Elements.{All-push, All-weaker, All-nil}
use Rattle.transyt_parts.specs.declared.node.Stage.{Stage}
use Rattle.transyt_net.specs.Parts.{Network}
use Rattle.transyt_net.specs.Valid.{is_among, on_place, node_numbers, link_numbers, IsSound, IsLink, all_differ}
use Rattle.transyt_net.specs.Valid.{node_number, IsNode, IsStage}
use Rattle.transyt_net.specs.Faults.{node_fault, with_node, last_place, stage_fault, with_stage}
use Rattle.transyt_parts.specs.Made.{new_node, add_stage}
use Rattle.transyt_net.proofs.PlaceLaws.{among_more, all_differ_push, map_kept_at, length_kept_at, all_on_place}
use Rattle.transyt_net.proofs.WriteLaws.{stages_more, stages_more_at}
use Rattle.transyt_net.proofs.WriteLaws.{link_with_more_nodes}

-- one more at the end of a list that is kept by another
pub one_more : {A B : Type 0} (key : A → B) (xs : List A) (kept : List B) (x : A)
    → kept ≡ map key xs → kept ++ key x ∷ [] ≡ map key (xs ++ x ∷ [])
one_more key xs kept x at = ap (λ ks. ks ++ key x ∷ []) at ∙ sym (map-append key xs (x ∷ []))

-- a draft with a new node is sound
pub sound_node : (net : Network) (number offset : ℕ) → IsSound net → node_fault net number offset ≡ None
    → IsSound (with_node net number offset)
sound_node net number offset h none =
    let steps = net.frame.step_count in
    let new = new_node number offset in
    let after = net.nodes ++ new ∷ [] in
    let longer = length-append net.nodes (new ∷ []) in
    let keys : node_numbers after ≡ node_numbers net.nodes ++ number ∷ [] = map-append node_number net.nodes (new ∷ []) in
    let apart = all_differ_push (node_numbers net.nodes) number in
    let differ : all_differ (node_numbers after) ≡ true = grind (arith, nat_tests) in
    let count : length after ≤ 200 = grind (arith, nat_tests) in
    let no_stages = All-nil (IsStage steps) in
    let is : IsNode steps new = grind (arith, nat_tests) in
    let nodes : All (IsNode steps) after = All-push (IsNode steps) net.nodes new h.nodes is in
    let links : All (IsLink steps after (link_numbers net.links)) net.links =
    All-weaker _ (IsLink steps after (link_numbers net.links))
    (λ l. link_with_more_nodes steps net.nodes after (link_numbers net.links)
    (λ k a. ap (λ ks. is_among ks k) keys ∙ among_more (node_numbers net.nodes) (number ∷ []) k a)
    (stages_more net.nodes new) l) net.links h.links in
    grind (arith, nat_tests)

-- a draft with a new stage is sound
pub sound_stage : (net : Network) (s : Stage) → IsSound net → stage_fault net s ≡ None → IsSound (with_stage net s)
sound_stage net s h none =
    let steps = net.frame.step_count in
    let p = last_place net.nodes in
    let after = on_place (add_stage s) net.nodes p in
    let keys : node_numbers after ≡ node_numbers net.nodes = map_kept_at (add_stage s) node_number (λ x. refl) net.nodes p in
    let differ : all_differ (node_numbers after) ≡ true = ap all_differ keys ∙ h.nodes_differ in
    let len = length_kept_at (add_stage s) net.nodes p in
    let new : IsStage steps s = grind (arith, nat_tests) in
    let nodes : All (IsNode steps) after = all_on_place (IsNode steps) (add_stage s) net.nodes p
    (λ n at good.
    let longer = length-append n.stages (s ∷ []) in
    let stages = All-push (IsStage steps) n.stages s good.stages new in
    grind (arith, nat_tests)) h.nodes in
    let links : All (IsLink steps after (link_numbers net.links)) net.links =
    All-weaker _ (IsLink steps after (link_numbers net.links))
    (λ l. link_with_more_nodes steps net.nodes after (link_numbers net.links) (λ k a. ap (λ ks. is_among ks k) keys ∙ a)
    (stages_more_at net.nodes s p) l) net.links h.links in
    grind (arith, nat_tests)
