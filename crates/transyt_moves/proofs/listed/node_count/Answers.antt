-- A node has two moves, and two for each stage.
use Rattle.std.proofs.Common.{length}
use Rattle.std.proofs.Common.{ap, ◌∙◌, arith}
use Rattle.transyt_parts.specs.Parts.{NodeValue}
use Rattle.transyt_moves.proofs.MoveLaws.{length-node_moves}
use Rattle.transyt_moves.proofs.listed.node_count.Goals as goal

pub returns-clause-count : goal.returns-clause-count
returns-clause-count c = λ steps size. length-node_moves steps size c.args.node.now
    ∙ omega (arith, c.len.ensures, ap (λ (n : NodeValue). length n.stages) c.node.view_is)
