-- The ledger of the counter is the one that the blank makes.
use Rattle.transyt_steps.proofs.counting.uncounted.Given as goal

-- the ledger that the blank is of
abbrev pub ghosts-on_blank : goal.ghosts-on_blank
ghosts-on_blank g a = record { name = a.blank.name; parts = a.blank.parts }
