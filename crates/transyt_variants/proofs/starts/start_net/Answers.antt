-- A start keeps all but the offsets.
use Rattle.transyt_variants.proofs.StartLaws.{kept_start}
use Rattle.transyt_variants.proofs.starts.start_net.Goals as goal

pub returns-clause-kept : goal.returns-clause-kept
returns-clause-kept c =
    kept_start c.args.net.now c.args.seed c.args.place c.start_made.result c.frame.ensures.valid c.start_made.ensures
