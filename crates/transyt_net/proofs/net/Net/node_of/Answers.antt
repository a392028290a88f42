-- The node that is found is one of the network's, and each of these keeps to its ranges.
use Rattle.std.proofs.Common.{rules}
use Rattle.transyt_net.proofs.FoundLaws.{node_good}
use Rattle.transyt_net.proofs.net.Net.node_of.Goals as goal

pub returns-clause-kept : goal.returns-clause-kept
returns-clause-kept c =
    let kept = node_good _ _ c.behind-self.inside.node c.in-Some.node.now c.self.invariant.0.sound.nodes (search rules) in
    search rules
