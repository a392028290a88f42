-- Networks of one shape.
use Rattle.std.proofs.Common.{◌≡◌, ℕ, ◌-◌, true, false, cond, nat_eq, List, [], ◌∷◌, map, Some, refl, sym, ap, ◌∙◌}
use Rattle.std.proofs.lemmas.List.{length-map}
use Rattle.std.proofs.lemmas.Simd.{map-map}
use Rattle.transyt_net.specs.Parts.{Network, NodeValue, SameShape}
use Rattle.transyt_net.specs.Valid.{node_numbers, numbered, stage_total, stages_at, node_number, link_number}
use Rattle.transyt_net.specs.Edits.{set_change, change_to}
use Rattle.transyt_net.proofs.PlaceLaws.{map_kept_at}
use Rattle.transyt_parts.specs.Made.{bare_stage, bare_node, bare_link}

-- nodes that differ at most in offsets and changes have the same numbers
pub same_numbers : (ms ns : List NodeValue) → map bare_node ms ≡ map bare_node ns → node_numbers ms ≡ node_numbers ns
same_numbers ms ns same =
    sym (map-map node_number bare_node ms) ∙ ap node_numbers same ∙ map-map node_number bare_node ns

bare_stages_at : (ns : List NodeValue) (k : ℕ) → stages_at (map bare_node ns) k ≡ stages_at ns k
bare_stages_at [] k = refl
bare_stages_at (n ∷ ns) k =
    elim (nat_eq k n.number) as (λ b. stage_total (cond b (Some (bare_node n)) (numbered node_number (map bare_node ns) k))
    ≡ stage_total (cond b (Some n) (numbered node_number ns k))) [
      | true ↦ length-map n.stages bare_stage
      | false ↦ bare_stages_at ns k
    ]

-- and as many stages
pub same_stages_at : (ms ns : List NodeValue) (k : ℕ) → map bare_node ms ≡ map bare_node ns → stages_at ms k ≡ stages_at ns k
same_stages_at ms ns k same =
    sym (bare_stages_at ms k) ∙ ap (λ (xs : List NodeValue). stages_at xs k) same ∙ bare_stages_at ns k

-- a change of a stage keeps the shape of the node
pub change_bare : (stage change : ℕ) (n : NodeValue) → bare_node (set_change stage change n) ≡ bare_node n
change_bare stage change n =
    ap (λ ss. record (bare_node n) { stages = ss })
    (map_kept_at (change_to change) bare_stage (λ s. refl) n.stages (stage - 1))

-- networks of one shape have one list of nodes' numbers
pub same_node_numbers : (a b : Network) → SameShape a b → map node_number a.nodes ≡ map node_number b.nodes
same_node_numbers a b h = same_numbers a.nodes b.nodes (ap (λ n. n.nodes) h)

-- networks of one shape have one list of links' numbers
pub same_link_numbers : (a b : Network) → SameShape a b → map link_number a.links ≡ map link_number b.links
same_link_numbers a b h =
    sym (map-map link_number bare_link a.links) ∙ ap (λ n. map link_number n.links) h ∙ map-map link_number bare_link b.links
