-- The ledger of the counter is the one that the blank makes.
use Rattle.transyt_bench.proofs.main.Given as goal

-- the ledger that the blank is of
abbrev pub ghosts-evaluations : goal.ghosts-evaluations
ghosts-evaluations a = record { name = a.blank.name; parts = a.blank.parts }
