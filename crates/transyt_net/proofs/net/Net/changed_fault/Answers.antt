-- The node that is found has at most eight stages.
use Rattle.std.proofs.Common.{rules, ◌≤◌, length}
use Rattle.transyt_net.proofs.FoundLaws.{node_good}
use Rattle.transyt_net.proofs.net.Net.changed_fault.Goals as goal

pub order_fault-requires-clause-few : goal.order_fault-requires-clause-few
order_fault-requires-clause-few c =
    let good = node_good _ _ c.args.node c.in-Some.owner.now c.self.invariant.0.sound.nodes (search rules) in
    let few : length c.in-Some.owner.now.stages ≤ 8 = good.stage_count in
    search rules
