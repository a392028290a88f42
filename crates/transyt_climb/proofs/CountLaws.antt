-- The number of moves, which no edit changes.
use Rattle.std.proofs.Common.{◌≡◌, ℕ, ◌+◌, ◌*◌, List, [], ◌∷◌, length, map, ap, refl, sym, ◌∙◌, length-append, arith}
use Rattle.std.specs.List.{flat_map}
use Rattle.std.proofs.lemmas.List.{length-map}
use Rattle.transyt_parts.specs.Parts.{NodeValue}
use Rattle.transyt_parts.specs.Made.{bare_node, bare_stage}
use Rattle.transyt_net.specs.Parts.{Network, shape, SameShape}
use Rattle.transyt_net.proofs.KeptLaws.{shape_kept}
use Rattle.transyt_moves.specs.Moves.{node_moves, size_moves, sizes_of, move, move_count}
use Rattle.transyt_moves.proofs.MoveLaws.{length-node_moves}
use Rattle.transyt_sweep.specs.Climb.{moved}

-- a node with its offset and changes put to 0 has as many moves
node_bare : (steps size : ℕ) (n : NodeValue)
    → length (node_moves steps size (bare_node n)) ≡ length (node_moves steps size n)
node_bare steps size n =
    length-node_moves steps size (bare_node n)
    ∙ ap (λ k. 2 + 2 * k) (length-map n.stages bare_stage)
    ∙ sym (length-node_moves steps size n)

-- so have all nodes, by one size
nodes_bare : (steps size : ℕ) (nodes : List NodeValue)
    → length (size_moves steps (map bare_node nodes) size) ≡ length (size_moves steps nodes size)
nodes_bare steps size [] = refl
nodes_bare steps size (n ∷ ns) = simp length-append (omega (arith, node_bare steps size n, nodes_bare steps size ns))

-- and by all sizes
sizes_bare : (steps : ℕ) (nodes : List NodeValue) (sizes : List ℕ)
    → length (flat_map (size_moves steps (map bare_node nodes)) sizes)
    ≡ length (flat_map (size_moves steps nodes) sizes)
sizes_bare steps nodes [] = refl
sizes_bare steps nodes (s ∷ ss) = simp length-append (omega (arith, nodes_bare steps s nodes, sizes_bare steps nodes ss))

-- the number of moves is a matter of shape
pub count_shape : (net : Network) → move_count (shape net) ≡ move_count net
unfolding move_count
count_shape net = sizes_bare net.frame.step_count net.nodes (sizes_of net.plan)

-- networks of one shape have as many moves
pub count_same : (a b : Network) → SameShape a b → move_count a ≡ move_count b
count_same a b same = sym (count_shape a) ∙ ap move_count same ∙ count_shape b

-- a move keeps the shape
pub shape_moved : (net : Network) (place : ℕ) → SameShape (moved net place) net
unfolding moved
shape_moved net place = shape_kept net (move net place)

-- a move keeps the number of moves
pub count_moved : (net : Network) (place : ℕ) → move_count (moved net place) ≡ move_count net
count_moved net place = count_same (moved net place) net (shape_moved net place)
