-- Other starts of a network: offsets that are drawn from a seed. Places of nodes count from 0, in card order.
use Rattle.std.specs.Prelude.{ℕ, zero, suc, ◌+◌, ◌*◌, List, map, length}
use Rattle.std.specs.List.{range_with_len}
use Rattle.transyt_net.specs.Parts.{Network, NodeValue, node_of}
use Rattle.transyt_net.specs.Edits.{set_offset}
use Rattle.transyt_make.specs.Draws.{draw}

-- the nodes with draws as their offsets: the first node has the draw of this number, and each its own
abbrev pub drawn_nodes : Network → ℕ → ℕ → List NodeValue
drawn_nodes net seed first =
    map (λ p. set_offset (draw seed (first + p) net.frame.step_count) (node_of net p))
    (range_with_len 0 (length net.nodes))

-- the start of a number: number 0 is the network itself; the draws go on from start to start
unfoldable pub start_at : Network → ℕ → ℕ → Network
start_at net seed zero = net
start_at net seed (suc i) = record net { nodes = drawn_nodes net seed (i * length net.nodes) }
