-- The least greens for what the stages ask are those of the definition, and leave room in the cycle.
use Rattle.std.proofs.Common.{length}
use Rattle.std.proofs.lemmas.List.FromFn.{length-map-range_with_len}
use Rattle.transyt_parts.specs.Parts.{NodeValue}
use Rattle.transyt_net.specs.Parts.{Network, node_of}
use Rattle.transyt_equisat.specs.Sharing.{green_by_demand}
use Rattle.transyt_equisat.proofs.SettingLaws.{setting_of}
use Rattle.transyt_equisat.proofs.AskedLaws.{greens_asked}
use Rattle.transyt_equisat.proofs.GreensLaws.{least_room}
use Rattle.transyt_equisat.proofs.balancing.greens_at.Goals as goal

pub filled-requires-clause-count : goal.filled-requires-clause-count
filled-requires-clause-count c =
    rw c.in_ok-least.ensures
    (length-map-range_with_len (green_by_demand c.args.here.now.asked.now c.args.peak) 0 (length c.args.here.now.asked.now.stages))

pub filled-requires-clause-room : goal.filled-requires-clause-room
filled-requires-clause-room c =
    let net : Network = c.args.here.now.net.now in
    let n : NodeValue = node_of net c.args.here.now.node in
    let setting = setting_of net c.args.here.now.node c.nodes-nodes.ensures.valid c.args.here.now.inside in
    rw (c.in_ok-least.ensures, c.args.here.now.theirs, greens_asked net n c.args.peak setting)
    (least_room net n c.args.peak setting (rw c.args.here.now.theirs at c.requires))

pub returns-clause-value : goal.returns-clause-value
returns-clause-value c =
    let setting = setting_of c.args.here.now.net.now c.args.here.now.node c.nodes-nodes.ensures.valid c.args.here.now.inside in
    rw (c.filled.ensures.value, c.in_ok-least.ensures, c.args.here.now.theirs)
    (rw (greens_asked c.args.here.now.net.now (node_of c.args.here.now.net.now c.args.here.now.node) c.args.peak setting))
