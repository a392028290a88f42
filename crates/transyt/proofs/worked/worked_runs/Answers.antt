-- The headline of the worked run.
use Rattle.transyt.proofs.WorkedRuns.{report_told}
use Rattle.transyt.proofs.worked.worked_runs.Goals as goal

pub returns-clause-headline : goal.returns-clause-headline
returns-clause-headline c = report_told
