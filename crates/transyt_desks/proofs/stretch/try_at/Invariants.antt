-- The counter's ledger is that of the blank.
use Rattle.transyt_desks.proofs.stretch.try_at.Given as goal

-- the ledger of the call
abbrev pub ghosts-try_counted : goal.ghosts-try_counted
ghosts-try_counted a = record { name = a.blank.name; parts = a.blank.parts }
