-- The place of the node that the edit names.
use Rattle.transyt_track.proofs.EditedLaws.{node_edited}
use Rattle.transyt_track.proofs.own.edited_node.Goals as goal

pub returns-in-Offset : goal.returns-in-Offset
returns-in-Offset c =
    node_edited c.args.net.now c.args.e.now c.in-Offset.node c.node_place.result c.node_place.ensures.place c.in-Offset.is
