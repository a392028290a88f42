-- The ledger of the counter is the one that the blank makes.
use Rattle.transyt_rows.proofs.trial.run.Given as goal

abbrev pub ghosts-run_counted : goal.ghosts-run_counted
ghosts-run_counted a b = record { name = b.blank.name; parts = b.blank.parts }
