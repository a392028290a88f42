-- The place is a size, and a rest within the moves by it.
use Rattle.std.proofs.Common.{◌/◌, get_or, ◌∙◌, arith}
use Rattle.transyt_moves.proofs.MoveLaws.{among_moves, move_among}
use Rattle.transyt_moves.proofs.listed.move_at.Goals as goal

pub nonzero_div-size : goal.nonzero_div-size
nonzero_div-size c =
    (among_moves _ _ _ _ _ _ c.nodes-nodes.ensures.steps c.nodes-nodes.ensures.list c.sizes.ensures.value
    c.nodes_count-each.ensures.count c.requires).some

pub bounds-sizes-place : goal.bounds-sizes-place
bounds-sizes-place c =
    (among_moves _ _ _ _ _ _ c.nodes-nodes.ensures.steps c.nodes-nodes.ensures.list c.sizes.ensures.value
    c.nodes_count-each.ensures.count c.requires).piece

pub nonzero_rem-place : goal.nonzero_rem-place
nonzero_rem-place c =
    (among_moves _ _ _ _ _ _ c.nodes-nodes.ensures.steps c.nodes-nodes.ensures.list c.sizes.ensures.value
    c.nodes_count-each.ensures.count c.requires).some

pub size_move-requires : goal.size_move-requires
size_move-requires c =
    let part = among_moves _ _ _ _ _ _ c.nodes-nodes.ensures.steps c.nodes-nodes.ensures.list c.sizes.ensures.value
    c.nodes_count-each.ensures.count c.requires in
    let size = get_or c.sizes.result.now (c.args.place / c.nodes_count-each.result) 0 in
    omega (arith, part.left, c.nodes_count-each.ensures.count size)

pub returns : goal.returns
returns c = c.size_move.ensures ∙ move_among _ _ _ _ _ _ c.nodes-nodes.ensures.steps c.nodes-nodes.ensures.list c.sizes.ensures.value
    c.nodes_count-each.ensures.count c.requires
