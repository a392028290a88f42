-- The moves that a climb tries, in order. Offsets, changes and sizes are in steps.
use Rattle.std.specs.Prelude.{ℕ, ◌+◌, ◌%◌, Bool, true, false, List, [], ◌∷◌, ◌++◌, length, Option, Some, None}
use Rattle.std.specs.Prelude.{slice_index_or, if◌then◌else◌}
use Rattle.std.specs.List.{flat_map, range_with_len}
use Rattle.transyt_cycle.specs.Cycle.{minus_mod}
use Rattle.transyt_parts.specs.Parts.{NodeValue, PlanValue}
use Rattle.transyt_parts.specs.Plan.{stage_of}
use Rattle.transyt_net.specs.declared.edit.Edit.{Edit}
use Rattle.transyt_net.specs.declared.edit.Edit.TheVariants.{Offset, Change}
use Rattle.transyt_net.specs.Parts.{Network}

-- a step moved by a size, on or back, round the cycle
abbrev pub shifted : Bool → ℕ → ℕ → ℕ → ℕ
shifted back steps step size = if back then minus_mod steps step size else (step + size) % steps

-- the offset of a node moved by a size on, and back
abbrev pub offset_moves : ℕ → ℕ → NodeValue → List Edit
offset_moves steps size n =
    Offset n.number (shifted false steps n.offset size) ∷ Offset n.number (shifted true steps n.offset size) ∷ []

-- the change of the stage at a place moved by a size on, and back
abbrev pub change_moves : ℕ → ℕ → NodeValue → ℕ → List Edit
change_moves steps size n k =
    Change n.number (k + 1) (shifted false steps (stage_of n.stages k).change size)
    ∷ Change n.number (k + 1) (shifted true steps (stage_of n.stages k).change size) ∷ []

-- the moves of a node: its offset, then the change of each of its stages
abbrev pub node_moves : ℕ → ℕ → NodeValue → List Edit
node_moves steps size n =
    offset_moves steps size n ++ flat_map (change_moves steps size n) (range_with_len 0 (length n.stages))

-- the moves by one size: those of each node in card order
abbrev pub size_moves : ℕ → List NodeValue → ℕ → List Edit
size_moves steps nodes size = flat_map (node_moves steps size) nodes

-- the sizes of a climb plan; none where there is none
abbrev pub sizes_of : Option PlanValue → List ℕ
sizes_of None = []
sizes_of (Some plan) = plan.sizes

-- the list of moves: for each size in order those by it
abbrev pub moves : Network → List Edit
moves net = flat_map (size_moves net.frame.step_count net.nodes) (sizes_of net.plan)

-- how many there are
unfoldable pub move_count : Network → ℕ
move_count net = length (moves net)

-- the move past the end of the list
abbrev pub no_move : Edit
no_move = Offset 0 0

-- the move at a place of the list
unfoldable pub move : Network → ℕ → Edit
move net place = slice_index_or (moves net) place no_move
