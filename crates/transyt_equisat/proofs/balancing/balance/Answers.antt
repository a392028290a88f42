-- Any least peak has the balance for its answer, and the balance is worth what is said.
use Rattle.std.proofs.Common.{◌≡◌}
use Rattle.std.proofs.lemmas.Result.{IfOk-weaker}
use Rattle.transyt_net.specs.Parts.{node_of}
use Rattle.transyt_equisat.specs.Balance.{balance, IsBalanced}
use Rattle.transyt_equisat.proofs.WorthLaws.{balanced, balance_by}
use Rattle.transyt_equisat.proofs.balancing.balance.Goals as goal

pub returns-clause-value : goal.returns-clause-value
returns-clause-value c =
    rw (balance_by c.args.net.now c.args.node c.in_ok-peak.peak c.nodes.ensures.valid c.requires
    (rw c.new-asked.ensures at c.in_ok-peak.ensures)) at c.answer_for.ensures

pub returns-clause-worth : goal.returns-clause-worth
returns-clause-worth c =
    IfOk-weaker c.answer_for.result (λ g. g ≡ balance c.args.net.now c.args.node)
    (λ g. IsBalanced c.args.net.now (node_of c.args.net.now c.args.node) g)
    (λ g same. rw same (balanced c.args.net.now c.args.node c.nodes.ensures.valid c.requires)) (returns-clause-value c)
