-- The ledger of the counter is the one that the blank makes.
use Rattle.transyt.proofs.program.Call.run.Given as goal

abbrev pub ghosts-run_counted : goal.ghosts-run_counted
ghosts-run_counted a b = record { name = b.blank.name; parts = b.blank.parts }
