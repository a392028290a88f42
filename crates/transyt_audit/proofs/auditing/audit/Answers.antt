-- The verdict and the steps.
use Rattle.transyt_audit.proofs.Planned.{planned, verdict_is, steps_are}
use Rattle.transyt_audit.proofs.auditing.audit.Goals as goal

pub returns-clause-verdict : goal.returns-clause-verdict
returns-clause-verdict g c =
    rw (verdict_is c.args.net.now c.in_ok-truth.truth c.args.table.now c.args.line c.in_ok-truth.ensures.value
    (planned _ _ _ _ c.plan.ensures.value c.in-Some.is)) at c.judge-found.ensures.verdict

pub returns-clause-steps : goal.returns-clause-steps
returns-clause-steps g c =
    steps_are c.args.net.now c.in_ok-truth.truth c.args.steps.now c.open.new.steps c.judge-found.new.steps
    c.in_ok-truth.ensures.value c.in_ok-truth.ensures.ok c.judge-found.ensures.steps
