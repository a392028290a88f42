-- The network of a cycle time keeps the seconds of its steps.
use Rattle.transyt_variants.proofs.CycleLaws.{kept_cycle}
use Rattle.transyt_variants.proofs.cycles.cycle_net.Goals as goal

pub returns-clause-kept : goal.returns-clause-kept
returns-clause-kept c =
    kept_cycle c.args.net.now c.args.cycle c.cycle_made.result c.frame.ensures.valid c.requires.low c.requires.high
    c.cycle_made.ensures
